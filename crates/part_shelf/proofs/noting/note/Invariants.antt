use Rattle.std.proofs.Common.{◌≡◌, ◌++◌, [], ◌∷◌, List, length, take}
use Rattle.std.specs.List.{AllZip}
use Rattle.disk_model.specs.Disk.{State}
use Rattle.pattern_tree.specs.Content.{Content}
use Rattle.section_store.specs.Sections.{Form}
use Rattle.part_shelf.specs.Spots.{AreSpots, IsEntry}
use Rattle.part_shelf.proofs.noting.note.Given as goal

abbrev pub invariant-loop-i : goal.invariant-loop-i
invariant-loop-i l =
    (form : Form) (states : List State) (now : State) (all trees : List Content) → l.part ≡ length states → AreSpots form states l.fn.spots.items all
    → AllZip (IsEntry form now.read) l.entries trees → AreSpots form (states ++ now ∷ []) l.spots.items (all ++ take l.i trees)
