-- What the faults of a shelf say of its parts.
use Rattle.std.specs.Prelude.{ℕ, List, get_or}
use Rattle.disk_model.specs.Disk.{Grew}
use Rattle.merging.specs.declared.fault.MergeFault.{MergeFault}
use Rattle.merging.specs.declared.fault.MergeFault.TheVariants as merges
use Rattle.merging.specs.declared.fault.ShelfFault.{ShelfFault}
use Rattle.merging.specs.declared.fault.ShelfFault.TheVariants as shelves

-- no part gave other bytes than before
abbrev pub IsSteady : ShelfFault → Type 0
IsSteady (shelves.Device part) = Unit {0}
IsSteady shelves.Memory = Unit {0}
IsSteady (shelves.Changed part) = ⊥

-- A fault that says that a read of a part failed comes only if one more call of the disk of that part did, by how many of each part's
-- failed before and after.
abbrev pub OnlyFailing : List ℕ → List ℕ → ShelfFault → Type 0
OnlyFailing before after (shelves.Device part) = Grew (get_or before part 0) (get_or after part 0)
OnlyFailing before after shelves.Memory = Unit {0}
OnlyFailing before after (shelves.Changed part) = Unit {0}

-- if it is the fault of a shelf, this holds of that
abbrev pub IfOfShelf : (ShelfFault → Type 0) → MergeFault → Type 0
IfOfShelf Holds (merges.Shelf fault) = Holds fault
IfOfShelf Holds (merges.Put fault) = Unit {0}
