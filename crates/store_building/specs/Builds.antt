-- What a build does to a store, and what the program reports of it.
use Rattle.std.specs.Prelude.{◌≡◌, ◌⊎◌, ◌≤◌, ◌+◌, ◌++◌, ℕ, List, [], Result, Ok, Err, length}
use Rattle.std.specs.List.{All}
use Rattle.disk_model.specs.Disk.{State}
use Rattle.stop_parts.specs.Parts.{IsOf, Share}
use mathlib.Core.List.{IsPrefix}
use Rattle.section_store.specs.Going.{HoldsAll}
use Rattle.section_store.specs.Lasting.{LosesNothing, StaysTrusted}
use Rattle.section_store.specs.Sections.{Form}
use Rattle.recovery.specs.Opening.{StandsForSources}
use Rattle.recovery.specs.Moments.{IsLife}
use Rattle.precomputing.specs.Missing.{missing_of}
use Rattle.precomputing.specs.declared.outcome.Outcome.{Outcome}
use Rattle.precomputing.specs.declared.outcome.Outcome.TheVariants as outcomes
use Rattle.answer_lines.specs.declared.report.Built.{Built}
use Rattle.answer_lines.specs.declared.report.Report.{Report}
use Rattle.answer_lines.specs.declared.report.Report.TheVariants as reports
use Rattle.feed_basis.specs.Basis.{BasisData}
use Rattle.faults.specs.declared.fault.Fault.{Fault}
use Rattle.faults.specs.declared.fault.Fault.TheVariants as faults
use Rattle.store_terms.specs.Counts.{CountsStored}
use Rattle.store_terms.specs.Stores.{IsUnopened, form_over}

-- the new list is the old one, and stops of the part after it
pub record AddsOf (part : Share) (old new : List ℕ) : Type 0 where
  pub more : List ℕ
  pub is : new ≡ old ++ more
  pub own : All (IsOf part) more

-- A build of a part, whenever it is stopped. The file stood for the old list. After it trees of the part's stops are stored, in the order
-- in which workers hand them in, whatever that is. At most one has begun to be stored that isn't acknowledged. From the moment at which the
-- file was recovered, each outcome at each moment stands for the very trees of the old list and for others after them, in that order. What
-- each outcome of one moment held, each outcome of each later one holds, and each one of the end all that is acknowledged. A trusted disk
-- stays trusted.
pub record IsBuilding (part : Share) (form : Form) (old new : State) (before acknowledged storing : List ℕ) : Type 0 where
  pub stood : StandsForSources form before old.read
  pub life : IsLife form old new before storing
  pub loses : LosesNothing form old new
  pub trusts : StaysTrusted form old new
  pub adds : IsPrefix before acknowledged
  pub done : IsPrefix acknowledged storing
  pub own : AddsOf part before storing
  pub few : length storing ≤ length acknowledged + 1
  pub held : HoldsAll form acknowledged new

-- The file stands for the old list and what was stored after it. The part's stops in that list are counted, and each of the part named that
-- isn't in it.
pub record IsBuilt (basis : BasisData) (part : Share) (k : ℕ) (old new : State) (built : Built) : Type 0 where
  pub before : List ℕ
  pub list : List ℕ
  pub building : IsBuilding part (form_over basis k) old new before list list
  pub stands : StandsForSources (form_over basis k) list new.read
  pub told : CountsStored basis part list built

-- what came of a build, as a report or the same fault
abbrev pub IsReportOf : Result Built Fault → Result Report Fault → Type 0
IsReportOf (Ok built) report = report ≡ Ok (reports.Built built)
IsReportOf (Err fault) report = report ≡ Err fault

-- the build came to its end: each tree is stored, or these stops have none
abbrev pub IsWhole : Outcome → Type 0
IsWhole outcomes.Done = Unit {0}
IsWhole (outcomes.Partial missing) = Unit {0}
IsWhole outcomes.DeviceFailed = ⊥
IsWhole outcomes.NoMemory = ⊥

-- what a build of a part that came to its end says of its stops that the list lacks
abbrev pub CountsLeft : Share → ℕ → List ℕ → Outcome → Type 0
CountsLeft part stops list outcomes.Done = missing_of part stops list ≡ []
CountsLeft part stops list (outcomes.Partial missing) = missing.items ≡ missing_of part stops list
CountsLeft part stops list outcomes.DeviceFailed = Unit {0}
CountsLeft part stops list outcomes.NoMemory = Unit {0}

-- why a build has no report: the device failed at a put; or memory ran out, before anything was started or for the report
abbrev pub IsEndOf : Outcome → Fault → Type 0
IsEndOf outcomes.Done fault = fault ≡ faults.Memory
IsEndOf (outcomes.Partial missing) fault = fault ≡ faults.Memory
IsEndOf outcomes.DeviceFailed fault = fault ≡ faults.PutFailed
IsEndOf outcomes.NoMemory fault = fault ≡ faults.Memory

-- memory ran out, or the device failed at a put, whose source may be in the file or not
pub record IsStopped (basis : BasisData) (part : Share) (k : ℕ) (old new : State) (fault : Fault) : Type 0 where
  pub before : List ℕ
  pub acknowledged : List ℕ
  pub storing : List ℕ
  pub building : IsBuilding part (form_over basis k) old new before acknowledged storing
  pub why : (fault ≡ faults.Memory) ⊎ (fault ≡ faults.PutFailed)

-- the store isn't opened; or the build came to an early end
abbrev pub IsUnbuilt : BasisData → Share → ℕ → State → State → Fault → Type 0
IsUnbuilt basis part k old new fault = IsUnopened (form_over basis k) old new fault ⊎ IsStopped basis part k old new fault
