-- What a merge does to a file, and what the program reports of it.
use Rattle.std.specs.Prelude.{◌≡◌, ◌⊎◌, ℕ, List}
use Rattle.std.specs.List.{All}
use Rattle.disk_model.specs.Disk.{State}
use Rattle.disk_model.specs.Moments.{Leaves}
use Rattle.timetable.specs.Table.{stops_of}
use Rattle.pattern_tree.specs.Content.{Content}
use Rattle.stop_parts.specs.Parts.{whole}
use Rattle.section_store.specs.Between.{GoesBetween}
use Rattle.section_store.specs.Lasting.{IsExact, LosesNothing, StaysTrusted}
use Rattle.section_store.specs.Sections.{Form, Stands, sources}
use Rattle.section_store.specs.declared.fault.PutFault.TheVariants as puts
use Rattle.recovery.specs.Opening.{IsOpening}
use Rattle.recovery.specs.Recovery.{CauseOf, IsLeftAlone, IsOutside, StandsForNoList}
use Rattle.store_faults.specs.declared.fault.RecoverFault.{RecoverFault}
use Rattle.store_faults.specs.declared.fault.RecoverFault.TheVariants as stores
use Rattle.migration.specs.Migration.{OneIsTooLarge}
use Rattle.merging.specs.Merging.{merged}
use Rattle.merging.specs.declared.fault.MergeFault.{MergeFault}
use Rattle.merging.specs.declared.fault.MergeFault.TheVariants as merges
use Rattle.merging.specs.Reads as reads
use Rattle.merging.specs.Reads.{IfOfShelf, IsSteady}
use Rattle.answer_lines.specs.declared.report.Built.{Built}
use Rattle.feed_basis.specs.Basis.{BasisData}
use Rattle.store_terms.specs.Counts.{CountsStored}
use Rattle.store_terms.specs.Stores.{form_over}
use Rattle.store_merging.specs.declared.fault.UnmergedFault.{UnmergedFault}
use Rattle.store_merging.specs.declared.fault.UnmergedFault.TheVariants as faults

-- The file stood for the trees before, and was opened. From then on each outcome at each moment stands for a front of the merged list that
-- begins with these. Nothing held was lost, and a trusted disk has stayed trusted if all trees of the parts are exact.
pub record IsMerging (form : Form) (before all : List Content) (old new : State) : Type 0 where
  pub stood : Stands form old.read before
  pub opened : State
  pub opening : IsOpening form old opened
  pub goes : GoesBetween form before (merged before all (stops_of form.table)) opened new
  pub loses : LosesNothing form old new
  pub trusts : All (IsExact form) all → StaysTrusted form old new

-- the file stands for these trees, and each crash leaves one that does
pub record HoldsList (form : Form) (list : List Content) (new : State) : Type 0 where
  pub stands : Stands form new.read list
  pub settled : Leaves (λ bytes. Stands form bytes list) new.now

-- at the end it stands for the whole merged list, whose stops are counted
pub record IsMerged (basis : BasisData) (k : ℕ) (all : List Content) (old new : State) (built : Built) : Type 0 where
  pub before : List Content
  pub merging : IsMerging (form_over basis k) before all old new
  pub holds : HoldsList (form_over basis k) (merged before all (stops_of basis.timetable)) new
  pub told : CountsStored basis whole (sources (merged before all (stops_of basis.timetable))) built

-- the file wasn't opened: its bytes stand for no list, for this cause, and then it reads as before; or a call failed, or memory ran out
pub record IsUnopened (form : Form) (old new : State) (why : RecoverFault) : Type 0 where
  pub cause : CauseOf form old.read why
  pub no_list : IsOutside why ⊎ StandsForNoList form old.read
  pub alone : IsOutside why ⊎ IsLeftAlone old new
  pub opening : IsOpening form old new

-- Why a merge stops: a tree wasn't read, which of honest disks gives the bytes of before; or it wasn't put, as the file would be too large,
-- its device failed or memory ran out.
abbrev pub CauseOfStop : Form → List Content → MergeFault → Type 0
CauseOfStop form all (merges.Shelf fault) = IsSteady fault
CauseOfStop form all (merges.Put puts.TooLarge) = OneIsTooLarge form all
CauseOfStop form all (merges.Put puts.Device) = Unit {0}
CauseOfStop form all (merges.Put puts.Memory) = Unit {0}
CauseOfStop form all (merges.Put puts.AlreadyStored) = ⊥
CauseOfStop form all (merges.Put puts.Failed) = ⊥
CauseOfStop form all (merges.Put puts.OtherTimetable) = ⊥

-- the trees aren't put together, or it isn't reported that they are
abbrev pub IsUnmerged : BasisData → ℕ → List Content → State → State → UnmergedFault → Type 0
IsUnmerged basis k all old new (faults.Unopened why) = IsUnopened (form_over basis k) old new why
IsUnmerged basis k all old new (faults.Stopped why) =
    (before : List Content) × IsMerging (form_over basis k) before all old new × CauseOfStop (form_over basis k) all why
IsUnmerged basis k all old new faults.Untold =
    (before : List Content) × IsMerging (form_over basis k) before all old new
    × HoldsList (form_over basis k) (merged before all (stops_of basis.timetable)) new

-- the fault says that a call of the disk failed into whose file the trees are put
abbrev pub TellsOut : UnmergedFault → Type 0
TellsOut fault = (fault ≡ faults.Unopened stores.Device) ⊎ (fault ≡ faults.Stopped (merges.Put puts.Device))

-- a fault that says that a read of a part failed comes only if one more call of the disk of that part did
abbrev pub OnlyFailing : List ℕ → List ℕ → UnmergedFault → Type 0
OnlyFailing before after (faults.Unopened why) = Unit {0}
OnlyFailing before after (faults.Stopped why) = IfOfShelf (reads.OnlyFailing before after) why
OnlyFailing before after faults.Untold = Unit {0}
