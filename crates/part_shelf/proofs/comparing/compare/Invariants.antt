use Rattle.std.proofs.Common.{◌≡◌, ◌↔◌, List, All, map, take}
use Rattle.std.specs.List.{AllZip}
use Rattle.disk_model.specs.Disk.{State}
use Rattle.pattern_tree.specs.Content.{Content}
use Rattle.section_store.specs.Sections.{Form}
use Rattle.part_shelf.specs.Comparing.{AgreeWith}
use Rattle.part_shelf.specs.Spots.{AreSpots, IsEntry}
use Rattle.part_shelf.proofs.comparing.compare.Given as goal

abbrev pub invariant-loop-i : goal.invariant-loop-i
invariant-loop-i g l =
    let Honest = g.D.Disk.honest in
    let state = g.D.Disk.state in
    let was = l.fn.disks.items in
    record {
      honest : All Honest was → All Honest l.disks.items;
      same : All Honest was → map state l.disks.items ≡ map state was;
      disk_honest : Honest l.fn.disk ↔ Honest l.disk;
      disk_same : Honest l.fn.disk → state l.disk ≡ state l.fn.disk;
      failures : map g.D.Disk.failures l.disks.items ≡ map g.D.Disk.failures was;
      disk_failures : g.D.Disk.failures l.disk ≡ g.D.Disk.failures l.fn.disk;
      agree : (form : Form) (states : List State) (all trees : List Content) → All Honest was → Honest l.fn.disk → states ≡ map state was
          → AreSpots form states l.spots all → AllZip (IsEntry form (state l.fn.disk).read) l.entries trees → AgreeWith all (take l.i trees);
    }
