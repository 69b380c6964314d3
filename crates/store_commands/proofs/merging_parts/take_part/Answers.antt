use Rattle.std.proofs.Common.{ℕ, List, map, subst, inl, inr}
use Rattle.section_store.specs.Sections.{Form}
use Rattle.part_shelf.specs.Comparing.{FailsOnly}
use Rattle.part_shelf.specs.Shelves.{WhyNot}
use Rattle.store_terms.specs.Stores.{form_over}
use Rattle.store_commands.specs.Merged.{joined}
use Rattle.store_files.specs.Disks.{disks_of}
use Rattle.store_commands.proofs.PartFacts.{taken}
use Rattle.store_commands.proofs.merging_parts.take_part.Goals as goal

-- the file isn't used
pub returns-in-Err : goal.returns-in-Err
returns-in-Err g c = λ before. inl (record {
  path = c.path_of-path.result;
  path_is = c.path_of-path.ensures;
  why = c.in-Err.fault;
  disk = c.in-Err.field-0-1;
  kept_out = c.in-Err.ensures.kept_out;
  told = c.in_part.ensures;
})

-- its store isn't added
pub returns : goal.returns
returns g c = λ before.
    let honest = g.D.Store.Disk.honest in
    let state = g.D.Store.Disk.state in
    let failures = g.D.Store.Disk.failures in
    let first = c.in-Ok.ready.disk in
    let last = c.in-Err-add.refused.1 in
    let why = c.in-Err-add.refused.0 in
    let after = map failures c.add.new.self.disks.items in
    inr (record {
      path = c.path_of-path.result;
      path_is = c.path_of-path.ensures;
      first = first;
      last = last;
      opened = (c.in-Ok.ready.is_new, c.in-Ok.ensures.ready);
      why = why;
      told = c.told_of_part.ensures;
      right = λ there all.
          let was = before.has all in
          let a = c.in-Err-add.ensures.added was.states (joined was.lists) was.holds there in
          record {
            states = was.states;
            lists = was.lists;
            read = was.read;
            holds = (subst (λ (f : Form). WhyNot f (state first).read was.states (joined was.lists) why) before.form_is a.0, a.1);
          };
      failed = after;
      fails = subst (λ (l : List ℕ). FailsOnly l after (failures first) (failures last) why) before.failed c.in-Err-add.ensures.device;
    })

pub returns-in-Ok-add : goal.returns-in-Ok-add
returns-in-Ok-add g c = λ before.
    let v = disks_of (g.D.Disks.opens c.args.on.now.disks.now) g.D.Store.Disk.honest g.D.Store.Disk.state g.D.Store.Disk.failures in
    taken v (form_over c.args.file.now.basis.now c.args.file.now.rides) c.args.paths.now c.args.number c.path_of-path.result c.requires
    (c.path_of-path.ensures c.requires) c.args.shelf.now c.add.new.self c.in-Ok.ready.disk before (c.in-Ok.ready.is_new, c.in-Ok.ensures.ready)
    c.add.ensures.form c.in-Ok-add.ensures.device c.in-Ok-add.ensures.added
