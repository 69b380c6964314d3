use Rattle.std.proofs.Common.{◌≡◌, ◌↔◌, List}
use Rattle.disk_model.specs.Disk.{State}
use Rattle.pattern_tree.specs.Content.{Content}
use Rattle.section_store.specs.Store.{Holds}
use Rattle.section_store.specs.declared.step.Step.TheVariants.{WriteBody}
use Rattle.merging.specs.Merging.{Goes, merged}
use Rattle.merging.proofs.merging.merge.Given as goal

abbrev pub invariant-loop-number : goal.invariant-loop-number
invariant-loop-number g l =
    let was = l.fn.store in
    let is = l.store in
    let state = g.E.Disk.state in
    let has = g.S.Shelf.has in
    record {
      ready : is.next ≡ WriteBody;
      form : is.form ≡ was.form;
      shelf : g.S.Shelf.form l.shelf ≡ was.form;
      failures : g.E.Disk.failures is.disk ≡ g.E.Disk.failures was.disk;
      shelf_failures : g.S.Shelf.failures l.shelf ≡ g.S.Shelf.failures l.fn.shelf;
      honest : g.E.Disk.honest was.disk ↔ g.E.Disk.honest is.disk;
      still : (disks : List State) (all : List Content) → has l.fn.shelf disks all → has l.shelf disks all;
      holds : (disks : List State) (before all : List Content) → g.E.Disk.honest was.disk → has l.fn.shelf disks all
          → Holds was.form before was.place was.stored (state was.disk) → Holds was.form (merged before all l.number) is.place is.stored (state is.disk);
      goes : (disks : List State) (before all : List Content) → g.E.Disk.honest was.disk → has l.fn.shelf disks all
          → Holds was.form before was.place was.stored (state was.disk) → Goes was.form before (merged before all l.number) all (state was.disk) (state is.disk);
    }
