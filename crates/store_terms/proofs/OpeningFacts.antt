-- What opening the store of a basis's timetable gives, if the timetable is named as the opening took it.
use Rattle.std.proofs.Common.{◌≡◌, ◌⊎◌, ℕ, Result, Ok, Err, MatchResult, IfOk, IfErr, subst, inl, inr}
use Rattle.disk_model.specs.Disk.{State, Grew}
use Rattle.timetable.specs.Table.{Table}
use Rattle.section_store.specs.Sections.{Form, form_of}
use Rattle.recovery.specs.Recovery.{CauseOf, IsLeftAlone, IsOutside, StandsForNoList}
use Rattle.store_faults.specs.declared.fault.RecoverFault.{RecoverFault}
use Rattle.store_faults.specs.declared.fault.RecoverFault.TheVariants as stores
use Rattle.recovery.specs.Opening.{IsOpening}
use Rattle.faults.specs.Faults.{of_store}
use Rattle.faults.specs.declared.fault.Fault.{Fault}
use Rattle.faults.specs.declared.fault.Fault.TheVariants as faults
use Rattle.feed_basis.specs.Basis.{BasisData}
use Rattle.store_terms.specs.Stores.{IsUnopened, OnlyFailing, TellsDevice, form_over}

-- what is said of a store of the timetable is said of one of the basis
pub over_basis : (P : Form → Type 0) (basis : BasisData) (k : ℕ) (table : Table) → table ≡ basis.timetable → P (form_of table k) → P (form_over basis k)
over_basis P basis k table is h = subst (λ (t : Table). P (form_of t k)) is h

-- a store that isn't opened, for this cause
pub unopened_over : (form : Form) (old new : State) (why : RecoverFault) (fault : Fault)
    → CauseOf form old.read why → (IsOutside why ⊎ StandsForNoList form old.read) → (IsOutside why ⊎ IsLeftAlone old new)
    → fault ≡ of_store why → IsOpening form old new → IsUnopened form old new fault
unopened_over form old new why fault cause no_list alone told opening = record {
  why = why;
  cause = cause;
  no_list = no_list;
  alone = alone;
  told = told;
  opening = opening;
}

pub unopened : (basis : BasisData) (k : ℕ) (table : Table) (old new : State) (why : RecoverFault) (fault : Fault)
    → table ≡ basis.timetable → CauseOf (form_of table k) old.read why → (IsOutside why ⊎ StandsForNoList (form_of table k) old.read)
    → (IsOutside why ⊎ IsLeftAlone old new) → fault ≡ of_store why → IsOpening (form_of table k) old new → IsUnopened (form_over basis k) old new fault
unopened basis k table old new why fault is cause no_list alone told opening = over_basis (λ form. IsUnopened form old new fault) basis k table is (record {
  why = why;
  cause = cause;
  no_list = no_list;
  alone = alone;
  told = told;
  opening = opening;
})

-- a store that isn't opened reports a failed call for no other cause
device_why : (why : RecoverFault) → TellsDevice (of_store why) → why ≡ stores.Device
device_why stores.Device says = cc
device_why stores.Memory (inl e) = cc
device_why stores.Memory (inr (inl e)) = cc
device_why stores.Memory (inr (inr e)) = cc
device_why stores.NotAStore (inl e) = cc
device_why stores.NotAStore (inr (inl e)) = cc
device_why stores.NotAStore (inr (inr e)) = cc
device_why stores.OldVersion (inl e) = cc
device_why stores.OldVersion (inr (inl e)) = cc
device_why stores.OldVersion (inr (inr e)) = cc
device_why stores.OtherTimetable (inl e) = cc
device_why stores.OtherTimetable (inr (inl e)) = cc
device_why stores.OtherTimetable (inr (inr e)) = cc
device_why stores.OtherRides (inl e) = cc
device_why stores.OtherRides (inr (inl e)) = cc
device_why stores.OtherRides (inr (inr e)) = cc
device_why (stores.Damaged number) (inl e) = cc
device_why (stores.Damaged number) (inr (inl e)) = cc
device_why (stores.Damaged number) (inr (inr e)) = cc

pub unopened_fails : (why : RecoverFault) (fault : Fault) (before after : ℕ) → fault ≡ of_store why
    → (why ≡ stores.Device → Grew before after) → OnlyFailing before after fault
unopened_fails why fault before after told device says = device (device_why why (subst TellsDevice told says))

-- want of memory reports no failed call
pub memory_fails : (before after : ℕ) → OnlyFailing before after faults.Memory
memory_fails before after (inl e) = cc
memory_fails before after (inr (inl e)) = cc
memory_fails before after (inr (inr e)) = cc

-- what is so of each refusal, of the refusal there is
pub of_refusal : {T E : Type 0} (r : Result T E) (P Q : E → Type 0) → ((e : E) → P e → Q e) → IfErr r P → IfErr r Q
of_refusal (Ok x) P Q f h = h
of_refusal (Err e) P Q f h = f e h

-- both answers of a result, each from its own clause
pub either : {T E : Type 0} (r : Result T E) (P P' : T → Type 0) (Q Q' : E → Type 0) → ((x : T) → P x → P' x) → ((e : E) → Q e → Q' e)
    → IfOk r P → IfErr r Q → MatchResult r P' Q'
either (Ok x) P P' Q Q' ok err p q = ok x p
either (Err e) P P' Q Q' ok err p q = err e q
