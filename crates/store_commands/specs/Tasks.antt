-- What each task may find over the file of a store, or which fault it has.
use Rattle.std.specs.Prelude.{◌≡◌, ◌↔◌, ◌⊎◌, ℕ, Bool, List, Option, None, Some, Result, Err, IfErr, MatchResult, map}
use Rattle.disk_model.specs.Disk.{State, Grew}
use Rattle.disk_model.specs.Image.{IsOutcome}
use Rattle.disk_model.specs.Moments.{LeavesOnly}
use Rattle.questions.specs.declared.question.Question.{Question}
use Rattle.questions.specs.declared.question.Within.{Within}
use Rattle.faults.specs.Faults.{in_migration}
use Rattle.faults.specs.declared.fault.Fault.{Fault}
use Rattle.faults.specs.declared.migrating.Side.TheVariants.{Old}
use Rattle.feed_basis.specs.Basis.{BasisData}
use Rattle.told_connections.specs.Times.{AreTimesOf}
use Rattle.told_connections.specs.declared.times.Times.{Times}
use Rattle.store_answers.specs.Asked.{IsStoredAnswer, IsStoredRefusal}
use Rattle.store_answers.specs.Windowed.{IsStoredRefusalWithin, IsStoredWindow}
use Rattle.store_answers.specs.Audited.{IsAllAudited, IsAudited, IsUnaudited}
use Rattle.store_building.specs.Builds.{IsBuilt, IsUnbuilt}
use Rattle.store_terms.specs.Counts.{ReportsBuilt}
use Rattle.store_answers.specs.Listings.{IsListed}
use Rattle.service_days.specs.Answers.{IsMoment}
use Rattle.printing.specs.Tellings.{tells_legs}
use Rattle.store_merging.specs.Merges.{IsMerged, OnlyFailing as PartsOnlyFailing}
use Rattle.store_merging.specs.Telling.{IsOfMerge, IsToldUnmerged}
use Rattle.store_merging.specs.declared.fault.UnmergedFault.{UnmergedFault}
use Rattle.store_migration.specs.Migrations.{IsTakenOver, IsUntaken, TellsOldDevice}
use Rattle.store_terms.specs.Stores.{IsUntold, form_over}
use Rattle.option_words.specs.declared.audited.Audited.{Audited}
use Rattle.option_words.specs.declared.audited.Audited.TheVariants as audits
use Rattle.option_words.specs.declared.format.Style.{Style}
use Rattle.command_line.specs.declared.job.Task.{Task}
use Rattle.command_line.specs.declared.job.Task.TheVariants as tasks
use Rattle.store_files.specs.Files.{IsKeptOut, IsReady}
use Rattle.store_commands.specs.Merged.{AreOpened, IfHonest, IsUnshelved}
use Rattle.store_files.specs.Disks.{DiskView}
use Rattle.feed_commands.specs.declared.found.Found.{Found}
use denote.Ref.{Bor}
use Rattle.feed_commands.specs.Finds.{FindsAnswer, FindsConnections, FindsReport}

-- what an audit of a stored tree, or of all of them, may find
abbrev pub IsAuditDone : BasisData → ℕ → Audited → State → State → Result Found Fault → Type 0
IsAuditDone basis k (audits.Stop from) old new found =
    MatchResult found (FindsReport (IsAudited basis k from.now old new)) (IsUnaudited basis k from.now old new)
IsAuditDone basis k (audits.All workers progress) old new found =
    MatchResult found (FindsReport (IsAllAudited basis k old new)) (IsUntold basis k old new)

-- the file of the version before isn't used, and that is the fault; nothing was done to the new one
pub record IsOldKeptOut {D : Type 0} (v : DiskView D) (basis : BasisData) (k : ℕ) (path : List ℕ) (old new : State)
    (found : Result Found Fault) : Type 0 where
  pub fault : Fault
  pub disk : Option D
  pub kept_out : IsKeptOut v (form_over basis k) path fault disk
  pub told : found ≡ Err (in_migration Old fault)
  pub untouched : new ≡ old

-- The file of the version before was opened, and its trees taken over, or why not. Whatever a crash leaves of it at each moment since then,
-- one might have left when it was opened.
pub record IsTakenFrom {D : Type 0} (v : DiskView D) (basis : BasisData) (k : ℕ) (path : List ℕ) (old new : State)
    (found : Result Found Fault) : Type 0 where
  pub first : D
  pub last : D
  pub is_new : Bool
  pub ready : IsReady v (form_over basis k) path first is_new
  pub honest : v.honest first ↔ v.honest last
  pub left : v.honest first → LeavesOnly (v.state first) (v.state last) (IsOutcome (v.state first).now)
  pub right : v.honest first → MatchResult found (FindsReport (IsTakenOver basis k (v.state first) (v.state last) old new))
      (IsUntaken basis k (v.state first) (v.state last) old new)
  pub device : IfErr found (λ fault. TellsOldDevice fault → Grew (v.failures first) (v.failures last))

-- what a migration from the file of a path may find, by the states of the new disk before and after
abbrev pub IsMigrated : {D : Type 0} → DiskView D → BasisData → ℕ → List ℕ → State → State → Result Found Fault → Type 0
IsMigrated v basis k path old new found = IsOldKeptOut v basis k path old new found ⊎ IsTakenFrom v basis k path old new found

-- a part isn't taken, and that is the fault; nothing was done to the file into which the parts are put
pub record IsPartsFault {D : Type 0} (v : DiskView D) (basis : BasisData) (k : ℕ) (paths : List (Bor (List ℕ))) (old new : State)
    (found : Result Found Fault) : Type 0 where
  pub fault : Fault
  pub told : found ≡ Err fault
  pub why : IsUnshelved v basis k paths fault
  pub untouched : new ≡ old

-- All parts were taken, and their trees put together, or why not. A fault that says that a read of a part failed comes only if one more
-- call of the disk of that part did.
pub record IsPutFrom {D : Type 0} (v : DiskView D) (basis : BasisData) (k : ℕ) (paths : List (Bor (List ℕ))) (old new : State)
    (found : Result Found Fault) : Type 0 where
  pub disks : List D
  pub opened : AreOpened v (form_over basis k) paths disks
  pub right : IfHonest v (form_over basis k) disks (λ states all. MatchResult found
      (FindsReport (ReportsBuilt (IsMerged basis k all old new))) (IsToldUnmerged basis k paths all old new))
  pub failed : List ℕ
  pub device : IfErr found (λ fault. (why : UnmergedFault) × IsOfMerge paths why fault × PartsOnlyFailing (map v.failures disks) failed why)

-- what a merge of the parts in files of these paths may find, by the states of the disk into which they are put before and after
abbrev pub IsPutTogether : {D : Type 0} → DiskView D → BasisData → ℕ → List (Bor (List ℕ)) → State → State → Result Found Fault → Type 0
IsPutTogether v basis k paths old new found = IsPartsFault v basis k paths old new found ⊎ IsPutFrom v basis k paths old new found

-- from trees of a store: the best journeys, or the connections if these are asked for
abbrev pub IsAskDone : BasisData → ℕ → Question → Bool → Option Within → State → State → Result Found Fault → Type 0
IsAskDone basis k question wanted None old new found =
    (moment : Option ℕ) × IsMoment basis.cover question.day question.seconds moment
    × MatchResult found (FindsAnswer (IsStoredAnswer basis k moment question wanted old new)) (IsStoredRefusal basis k moment question old new)
IsAskDone basis k question wanted (Some within) old new found =
    (times : Times) × AreTimesOf basis question within times
    × MatchResult found (FindsConnections (IsStoredWindow basis k times question wanted old new))
    (IsStoredRefusalWithin basis k times question old new)

-- What a task may find over the file of a store, by the states of its disk before and after, or which fault. The style says whether rides
-- and walks are found without being asked for.
abbrev pub IsTaskDone : {D : Type 0} → DiskView D → Style → BasisData → ℕ → Task → State → State → Result Found Fault → Type 0
IsTaskDone v style basis k (tasks.Ask question legs) old new found = IsAskDone basis k question (tells_legs style legs) question.within old new found
IsTaskDone v style basis k tasks.List old new found = MatchResult found (FindsReport (IsListed basis k old new)) (IsUntold basis k old new)
IsTaskDone v style basis k (tasks.Audit whose) old new found = IsAuditDone basis k whose old new found
IsTaskDone v style basis k (tasks.Build workers progress part) old new found =
    MatchResult found (FindsReport (ReportsBuilt (IsBuilt basis part k old new))) (IsUnbuilt basis part k old new)
IsTaskDone v style basis k (tasks.Migrate path progress) old new found = IsMigrated v basis k path.now old new found
IsTaskDone v style basis k (tasks.Merge parts progress) old new found = IsPutTogether v basis k parts.now old new found
