-- How the faults of a merge are reported: by the files of the parts, which are named in their order.
use Rattle.std.specs.Prelude.{◌≡◌, ◌<◌, ℕ, List, [], get_or, length, slice_index_or}
use Rattle.disk_model.specs.Disk.{State}
use Rattle.timetable.specs.Table.{stops_of}
use Rattle.pattern_tree.specs.Content.{Content}
use Rattle.store_faults.specs.declared.fault.RecoverFault.TheVariants.{Device}
use Rattle.merging.specs.declared.fault.MergeFault.TheVariants as merges
use Rattle.merging.specs.declared.fault.ShelfFault.{ShelfFault}
use Rattle.merging.specs.declared.fault.ShelfFault.TheVariants as shelves
use Rattle.part_shelf.specs.declared.fault.PartFault.{PartFault}
use Rattle.part_shelf.specs.declared.fault.PartFault.TheVariants as parts
use Rattle.faults.specs.Faults.{of_part, of_store}
use Rattle.faults.specs.declared.fault.Fault.{Fault}
use Rattle.faults.specs.declared.fault.Fault.TheVariants as faults
use Rattle.faults.specs.declared.migrating.StoreFault.{StoreFault}
use Rattle.faults.specs.declared.migrating.StoreFault.TheVariants as files
use Rattle.feed_basis.specs.Basis.{BasisData}
use Rattle.store_migration.specs.Migrations.{of_put}
use Rattle.store_merging.specs.Merges.{IsUnmerged}
use Rattle.store_merging.specs.declared.fault.UnmergedFault.{UnmergedFault}
use Rattle.store_merging.specs.declared.fault.UnmergedFault.TheVariants as unmerged
use denote.Ref.{Bor}

-- the path is the one of that index, if there is one
abbrev pub IsPathOf : List (Bor (List ℕ)) → ℕ → Bor (List ℕ) → Type 0
IsPathOf paths part path = part < length paths → get_or paths part path ≡ path

-- the fault says that the file of the part of that index isn't used
abbrev pub IsOfPart : List (Bor (List ℕ)) → ℕ → StoreFault → Fault → Type 0
IsOfPart paths part why fault = (path : Bor (List ℕ)) × IsPathOf paths part path × (fault ≡ faults.Part path why)

-- why a tree wasn't read, by the part that has it; want of memory is nobody's
abbrev pub IsOfShelf : List (Bor (List ℕ)) → ShelfFault → Fault → Type 0
IsOfShelf paths (shelves.Device part) fault = IsOfPart paths part (files.Recover Device) fault
IsOfShelf paths shelves.Memory fault = fault ≡ faults.Memory
IsOfShelf paths (shelves.Changed part) fault = IsOfPart paths part files.Changed fault

-- the fault names the stop, the part of that index, and a part before it
pub record NamesOther (basis : BasisData) (paths : List (Bor (List ℕ))) (number stop part : ℕ) (fault : Fault) : Type 0 where
  pub id : Bor (List ℕ)
  pub path : Bor (List ℕ)
  pub before : Bor (List ℕ)
  pub id_is : stop < stops_of basis.timetable → id.now ≡ slice_index_or basis.names.stops stop []
  pub path_is : IsPathOf paths number path
  pub before_is : IsPathOf paths part before
  pub told : fault ≡ faults.OtherTree id path before

-- why the part of that index isn't taken
abbrev pub IsOfRefusal : BasisData → List (Bor (List ℕ)) → ℕ → PartFault → Fault → Type 0
IsOfRefusal basis paths number (parts.Store why) fault = (path : Bor (List ℕ)) × IsPathOf paths number path × (fault ≡ of_part path why)
IsOfRefusal basis paths number (parts.OtherTree stop part) fault = NamesOther basis paths number stop part fault
IsOfRefusal basis paths number (parts.Shelf why) fault = IsOfShelf paths why fault

-- why the parts aren't put together: the file into which they are put, or a tree that wasn't read, or wasn't put; or want of memory
abbrev pub IsOfMerge : List (Bor (List ℕ)) → UnmergedFault → Fault → Type 0
IsOfMerge paths (unmerged.Unopened why) fault = fault ≡ of_store why
IsOfMerge paths (unmerged.Stopped (merges.Shelf why)) fault = IsOfShelf paths why fault
IsOfMerge paths (unmerged.Stopped (merges.Put why)) fault = fault ≡ of_put why
IsOfMerge paths unmerged.Untold fault = fault ≡ faults.Memory

-- the parts aren't put together, and that is reported
abbrev pub IsToldUnmerged : BasisData → ℕ → List (Bor (List ℕ)) → List Content → State → State → Fault → Type 0
IsToldUnmerged basis k paths all old new fault = (why : UnmergedFault) × IsUnmerged basis k all old new why × IsOfMerge paths why fault
