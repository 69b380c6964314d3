-- What is found when a store is opened.
use Rattle.std.specs.Prelude.{◌≡◌, ◌⊎◌, ℕ, List, [], map, slice_index_or}
use Rattle.disk_model.specs.Disk.{State, Grew}
use Rattle.feed_ids.specs.NameLists.{NameLists}
use Rattle.section_store.specs.Sections.{Form, form_of, old_form_of}
use Rattle.recovery.specs.Recovery.{StandsForNoList, IsLeftAlone, IsOutside, CauseOf}
use Rattle.store_faults.specs.declared.fault.RecoverFault.{RecoverFault}
use Rattle.store_faults.specs.declared.fault.RecoverFault.TheVariants.{Device}
use Rattle.recovery.specs.Opening.{IsOpening}
use Rattle.feed_basis.specs.Basis.{BasisData}
use Rattle.faults.specs.Faults.{of_store}
use Rattle.faults.specs.declared.fault.Fault.{Fault}
use Rattle.faults.specs.declared.fault.Fault.TheVariants as faults
use Rattle.faults.specs.declared.migrating.Side.TheVariants as sides
use Rattle.faults.specs.declared.migrating.StoreFault.TheVariants as files

-- what a store of trees over the timetable is for, with journeys of at most k rides
abbrev pub form_over : BasisData → ℕ → Form
form_over basis k = form_of basis.timetable k

-- and what one of the version before is for
abbrev pub old_form_over : BasisData → ℕ → Form
old_form_over basis k = old_form_of basis.timetable k

-- The store isn't opened: its bytes stand for no list, for this cause, and then the file reads as before. Or else a call of the disk
-- failed, or memory ran out. Nothing of it is lost.
pub record IsUnopened (form : Form) (old new : State) (fault : Fault) : Type 0 where
  pub why : RecoverFault
  pub cause : CauseOf form old.read why
  pub no_list : IsOutside why ⊎ StandsForNoList form old.read
  pub alone : IsOutside why ⊎ IsLeftAlone old new
  pub told : fault ≡ of_store why
  pub opening : IsOpening form old new

-- the store isn't opened, or memory ran out after that
abbrev pub IsUntold : BasisData → ℕ → State → State → Fault → Type 0
IsUntold basis k old new fault =
    IsUnopened (form_over basis k) old new fault ⊎ ((fault ≡ faults.Memory) × IsOpening (form_over basis k) old new)

-- the fault says that a call of the disk failed: as the store was opened, or at a put, or as a migration opened the file that it writes
abbrev pub TellsDevice : Fault → Type 0
TellsDevice fault =
    (fault ≡ faults.Store Device) ⊎ ((fault ≡ faults.PutFailed) ⊎ (fault ≡ faults.Migration sides.New (files.Recover Device)))

-- such a fault comes only if one more call of the disk failed
abbrev pub OnlyFailing : ℕ → ℕ → Fault → Type 0
OnlyFailing before after fault = TellsDevice fault → Grew before after

-- the ids of stops, in their order
abbrev pub ids_of : NameLists → List ℕ → List (List ℕ)
ids_of names stops = map (λ stop. slice_index_or names.stops stop []) stops
