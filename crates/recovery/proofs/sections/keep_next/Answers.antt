use Rattle.std.proofs.Common.{refl, drop, sym, subst}
use Rattle.timetable.specs.Table.{stops_of}
use Rattle.section_store.specs.Sections.{MayStand}
use Rattle.section_store.specs.Sources.{IsSetOf}
use Rattle.recovery.specs.Reading.{IsFound, IsShut}
use Rattle.recovery.proofs.sections.keep_next.Goals as goal

pub returns-in-None-clause-kept : goal.returns-in-None-clause-kept
returns-in-None-clause-kept g c = (
  refl,
  refl,
  λ honest.
      let shut : IsShut (drop c.args.found.now.place (g.D.Disk.state c.args.disk.now).read) = rw c.in-None.is at (c.in-Ok.ensures.next honest) in
      shut,
)

pub returns-clause-set : goal.returns-clause-set
returns-clause-set g c =
    let stops = stops_of c.args.form.now.table in
    subst (IsSetOf stops c.keep.new.found.present) (sym c.in-Ok-keep.ensures.stored)
    (c.in-Ok-keep.ensures.present stops c.args.found.now.stored.items c.requires.set)

pub returns-clause-kept : goal.returns-clause-kept
returns-clause-kept g c =
    let form = c.args.form.now in
    let stored = c.args.found.now.stored.items in
    let tree = c.in-Some.section.tree in
    let may : MayStand form tree = rw c.in-Some.is at c.in-Ok.ensures.known in
    record {
      tree = tree;
      taken = c.in-Ok-keep.ensures.taken;
      listed = c.in-Ok-keep.ensures.stored;
      may = may;
      found = λ honest.
          let found : IsFound form stored (drop c.args.found.now.place (g.D.Disk.state c.args.disk.now).read) c.args.found.now.place tree c.in-Some.section.end =
          rw c.in-Some.is at (c.in-Ok.ensures.next honest) in
          found;
    }
