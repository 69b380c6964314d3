use Rattle.std.proofs.Common.{rules, ◌∙◌, ◌≤◌, ℕ, List, [], length, map, ap, subst, inr}
use Rattle.std.proofs.lemmas.List.{take_all}
use Rattle.std.proofs.lemmas.Result.{err_from_is_err_and}
use Rattle.timetable.specs.Table.{Table}
use Rattle.section_store.specs.Sections.{form_of}
use Rattle.store_terms.specs.Stores.{form_over}
use Rattle.store_commands.specs.Merged.{AreShelved}
use Rattle.store_files.specs.Disks.{disks_of}
use Rattle.store_commands.proofs.merging_parts.shelve.Goals as goal
use denote.Ref.{Bor}

pub loop-number-init : goal.loop-number-init
loop-number-init g c =
    let failures = g.D.Store.Disk.failures in
    let new = c.in_ok-shelf.ensures in
    record {
      disks = [];
      opened = tt;
      form_is = new.form ∙ ap (λ (t : Table). form_of t c.args.file.now.rides) c.shared.ensures;
      failed = ap (map failures) new.disks;
      has = λ all. record {
        states = [];
        lists = [];
        read = record { stand = tt; alone = tt; exact = tt; agree = new.none.agree };
        holds = new.none;
      };
    }

pub loop-number-preserved : goal.loop-number-preserved
loop-number-preserved g c = c.in_ok-take_part.ensures c.loop-number.invariant

pub returns-in_err-take_part : goal.returns-in_err-take_part
returns-in_err-take_part g c =
    let inv = c.loop-number.invariant in
    let p = err_from_is_err_and c.from_residual-in_err-take_part.result c.from_residual-in_err-take_part.ensures.1 in
    rw (p.1, p.2) (inr (record {
      number = c.loop-number.number;
      within = search rules;
      disks = inv.disks;
      before = inv.opened;
      untaken = c.in_err-take_part.ensures inv;
    }))

pub returns : goal.returns
returns g c =
    let v = disks_of (g.D.Disks.opens c.args.on.now.disks.now) g.D.Store.Disk.honest g.D.Store.Disk.state g.D.Store.Disk.failures in
    let form = form_over c.args.file.now.basis.now c.args.file.now.rides in
    let paths = c.args.paths.now in
    let done : length paths ≤ c.loop-number.number = search rules in
    subst (λ (l : List (Bor (List ℕ))). AreShelved v form l c.loop-number.shelf) (take_all c.loop-number.number paths done) c.loop-number.invariant
