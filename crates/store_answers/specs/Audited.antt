-- What the program says of the answers from a stored tree.
use Rattle.std.specs.Prelude.{◌≡◌, ◌⊎◌, ◌≤◌, ⊤, ℕ, List, [], ◌∷◌, Option, None, Some, slice_index_or}
use Rattle.std.specs.Global.{Vec}
use Rattle.std.specs.List.{AllZip, Contains}
use denote.Ref.{Bor}
use Rattle.disk_model.specs.Disk.{State}
use Rattle.pattern_tree.specs.Content.{Content, longest}
use Rattle.pattern_query.specs.Questions.{Held}
use Rattle.pattern_query.specs.declared.refusal.Refusal.TheVariants as refusals
use Rattle.section_store.specs.Sections.{IsNew, Stands}
use Rattle.recovery.specs.Opening.{IsOpening, StandsForSources}
use Rattle.answer_lines.specs.Moments.{TellsMoment}
use Rattle.answer_lines.specs.declared.audit.Audit.{Audit}
use Rattle.answer_lines.specs.declared.audit.Differing.{Differing}
use Rattle.answer_lines.specs.declared.report.Report.{Report}
use Rattle.answer_lines.specs.declared.report.Report.TheVariants as reports
use Rattle.faults.specs.declared.fault.Fault.{Fault}
use Rattle.faults.specs.declared.fault.Fault.TheVariants as faults
use Rattle.feed_basis.specs.Basis.{BasisData}
use Rattle.feed_basis.specs.Ids.{stop_alone}
use Rattle.auditing.specs.Audits.{IsFirstDifference}
use Rattle.auditing.specs.declared.auditing.Difference.{Difference}
use Rattle.store_terms.specs.Stores.{IsUnopened, form_over}

-- the id is that of this stop
abbrev pub IsIdOf : BasisData → List ℕ → ℕ → Type 0
IsIdOf basis id s = stop_alone basis.names id ≡ Some (s ∷ [])

-- a difference, by the id of its stop and the day and time of its moment
abbrev pub TellsDifference : BasisData → Option Difference → Option Differing → Type 0
TellsDifference basis None None = ⊤
TellsDifference basis None (Some at) = ⊥
TellsDifference basis (Some difference) None = ⊥
TellsDifference basis (Some difference) (Some at) =
    (at.to.now ≡ slice_index_or basis.names.stops difference.to []) × TellsMoment basis.cover difference.depart at.depart

-- the audit of the stop with this id came to that
pub record TellsAudit (basis : BasisData) (from : List ℕ) (difference : Option Difference) (audit : Audit) : Type 0 where
  pub stop : audit.from.now ≡ from
  pub told : TellsDifference basis difference audit.differing

-- the tree that is held of the id's stop was compared; it is of the rides that the basis's stores have, or nothing is said
pub record IsComparedIn (basis : BasisData) (held : Held) (k : ℕ) (from : List ℕ) (difference : Option Difference) : Type 0 where
  pub stop : ℕ
  pub named : IsIdOf basis from stop
  pub tree : Content
  pub holds : held stop ≡ Some tree
  pub of : tree.source ≡ stop
  pub first : longest tree.pairs ≤ k → IsFirstDifference basis.timetable tree k difference

-- no stop has the id
pub record IsNoStop (basis : BasisData) (from : List ℕ) (fault : Fault) : Type 0 where
  pub id : Bor (List ℕ)
  pub same : id.now ≡ from
  pub told : fault ≡ faults.Question (refusals.UnknownStop id)
  pub none : stop_alone basis.names from ≡ None

-- there is no tree of the id's stop
pub record IsNoTree (basis : BasisData) (Lacks : ℕ → Type 0) (from : List ℕ) (fault : Fault) : Type 0 where
  pub id : Bor (List ℕ)
  pub same : id.now ≡ from
  pub told : fault ≡ faults.Question (refusals.NotStored id)
  pub stop : ℕ
  pub named : IsIdOf basis from stop
  pub lacks : Lacks stop

-- no stop has the id, or there is no tree of it, or memory ran out
abbrev pub IsUncompared : BasisData → (ℕ → Type 0) → List ℕ → Fault → Type 0
IsUncompared basis Lacks from fault = IsNoStop basis from fault ⊎ (IsNoTree basis Lacks from fault ⊎ (fault ≡ faults.Memory))

abbrev pub IsUncomparedIn : BasisData → Held → List ℕ → Fault → Type 0
IsUncomparedIn basis held from fault = IsUncompared basis (λ s. held s ≡ None) from fault

-- the first difference of the answers from that tree from those of the timetable, or that there is none, reported of a stop by this id
pub record TellsTree (basis : BasisData) (k : ℕ) (tree : Content) (from : List ℕ) (audit : Audit) : Type 0 where
  pub difference : Option Difference
  pub first : IsFirstDifference basis.timetable tree k difference
  pub told : TellsAudit basis from difference audit

-- reported of the tree's own stop by its id
abbrev pub TellsStored : BasisData → ℕ → Content → Audit → Type 0
TellsStored basis k tree audit = TellsTree basis k tree (slice_index_or basis.names.stops tree.source []) audit

-- The tree of the id's stop that the file has was compared, and that is reported. Nothing was done but to open the file.
pub record IsAudited (basis : BasisData) (k : ℕ) (from : List ℕ) (old new : State) (report : Report) : Type 0 where
  pub trees : List Content
  pub stands : Stands (form_over basis k) old.read trees
  pub stop : ℕ
  pub named : IsIdOf basis from stop
  pub tree : Content
  pub stored : Contains trees tree
  pub of : tree.source ≡ stop
  pub audit : Audit
  pub is : report ≡ reports.Audited audit
  pub told : TellsTree basis k tree from audit
  pub opening : IsOpening (form_over basis k) old new

-- Each tree that the file has was compared, and the same is reported of each, in the order in which they were stored. Nothing was done but
-- to open the file.
pub record IsAllAudited (basis : BasisData) (k : ℕ) (old new : State) (report : Report) : Type 0 where
  pub trees : List Content
  pub stands : Stands (form_over basis k) old.read trees
  pub audits : Vec Audit
  pub is : report ≡ reports.AuditedAll audits
  pub told : AllZip (TellsStored basis k) trees audits.items
  pub opening : IsOpening (form_over basis k) old new

-- the store is open, and there is nothing to compare
pub record IsUncomparedFrom (basis : BasisData) (k : ℕ) (from : List ℕ) (old new : State) (fault : Fault) : Type 0 where
  pub list : List ℕ
  pub stands : StandsForSources (form_over basis k) list old.read
  pub why : IsUncompared basis (λ s. IsNew s list) from fault
  pub opening : IsOpening (form_over basis k) old new

-- the store isn't opened; or else there is nothing to compare
abbrev pub IsUnaudited : BasisData → ℕ → List ℕ → State → State → Fault → Type 0
IsUnaudited basis k from old new fault =
    IsUnopened (form_over basis k) old new fault ⊎ IsUncomparedFrom basis k from old new fault
