-- What a table of travel times between the stops of two files leaves.
use Rattle.std.specs.Prelude.{◌≡◌, ◌⊎◌, ℕ, Contains, List, MatchOption, Option, None, Some, map}
use Rattle.faults.specs.declared.fault.Fault.{Fault}
use Rattle.faults.specs.declared.fault.Fault.TheVariants as faults
use Rattle.feed_basis.specs.Basis.{BasisData}
use Rattle.pattern_query.specs.declared.refusal.Refusal.TheVariants as refusals
use Rattle.printing.specs.Finished.{IsFaulted, IsNoMemory, IsUnwritten, StreamsData}
use Rattle.printing.specs.Tellings.{Telling}
use Rattle.printing.specs.declared.fault.Voice.{Voice}
use Rattle.questions.specs.declared.question.Question.{Question}
use Rattle.questions.specs.declared.question.Within.{Within}
use Rattle.service_days.specs.Answers.{IsMoment}
use Rattle.stop_lists.specs.Faults.{fault_lines, place_line}
use Rattle.stop_lists.specs.Lists.{Explains, IsLineOf, IsList, ids_in}
use Rattle.stop_lists.specs.declared.fault.ListFault.{ListFault}
use Rattle.stop_lists.specs.declared.fault.ListFault.TheVariants as lists
use Rattle.streams.specs.Streams.{IsSaid, StreamData}
use Rattle.told_connections.specs.Times.{AreTimesOf}
use Rattle.told_connections.specs.declared.times.Times.{Times}
use Rattle.told_matrix.specs.Asked.{IsMatrix, IsNoMatrix}
use Rattle.told_matrix.specs.Tables.{HasTable, IsBrokenOff, IsCutOff}
use Rattle.told_matrix.specs.declared.asking.Asked.{Asked}
use Rattle.told_matrix.specs.declared.asking.Matrix.{Matrix}
use Rattle.program_system.specs.World.{SystemView}
use denote.Ref.{Bor}

-- the first and the last moment to leave at: without a last time they are one
abbrev pub IsWindow : BasisData → Question → Option Within → Option ℕ → Option ℕ → Type 0
IsWindow basis question None first last = IsMoment basis.cover question.day question.seconds first × (last ≡ first)
IsWindow basis question (Some within) first last = (times : Times) × AreTimesOf basis question within times × (first ≡ times.moment) × (last ≡ times.until)

-- standard error says that a file of stops isn't read, and which one; or that memory ran out
abbrev pub IsListFaultSaid : List ℕ → ListFault → StreamData → StreamData → ℕ → Type 0
IsListFaultSaid path lists.Memory old new status = IsNoMemory old new status
IsListFaultSaid path lists.ReadFailed old new status = (status ≡ 6) × IsSaid (fault_lines path lists.ReadFailed) old new
IsListFaultSaid path lists.BadText old new status = (status ≡ 6) × IsSaid (fault_lines path lists.BadText) old new
IsListFaultSaid path lists.TooLarge old new status = (status ≡ 6) × IsSaid (fault_lines path lists.TooLarge) old new

-- the file of a path, which has these bytes, isn't read: that is said, and nothing is printed
pub record IsUnreadList (path bytes : List ℕ) (old new : StreamsData) (status : ℕ) : Type 0 where
  pub fault : ListFault
  pub why : Explains bytes fault
  pub nothing : new.out ≡ old.out
  pub said : IsListFaultSaid path fault old.err new.err status

-- the id that no stop has, if that is the fault
abbrev pub unknown_in : Fault → Option (Bor (List ℕ))
unknown_in (faults.Question (refusals.UnknownStop id)) = Some id
unknown_in fault = None

-- The id stands first on this line of the file of this path, of two files with these bytes. It is the file of the stops to leave from, or
-- the other one if that one doesn't list the id.
abbrev pub IsPlace : Question → List ℕ → List ℕ → List ℕ → List ℕ → ℕ → Type 0
IsPlace question from to id path n =
    ((path ≡ question.from.now) × IsLineOf from id n)
    ⊎ (¬ Contains (ids_in from) id × (path ≡ question.to.now) × IsLineOf to id n)

-- standard error says where an id stands that no stop has, and nothing after another fault
abbrev pub IsPlaceSaid : Question → List ℕ → List ℕ → Fault → StreamData → StreamData → Type 0
IsPlaceSaid question from to fault old new =
    MatchOption (unknown_in fault) (new ≡ old)
    (λ id. (path : List ℕ) × (n : ℕ) × IsPlace question from to id.now path n × IsSaid (place_line path n) old new)

-- the fault is said, and then the place of an id that no stop has; nothing is printed
pub record IsUntabled (t : Telling) (voice : Voice) (question : Question) (from to : List ℕ) (fault : Fault) (old new : StreamsData)
    (status : ℕ) : Type 0 where
  pub told : StreamsData
  pub faulted : IsFaulted t voice fault old told status
  pub nothing : new.out ≡ told.out
  pub place : IsPlaceSaid question from to fault told.err new.err

-- the table is printed, as far as standard output takes it and memory suffices
abbrev pub IsTablePrinted : BasisData → ℕ → Matrix → StreamsData → StreamsData → ℕ → Type 0
IsTablePrinted basis k matrix old new status =
    (HasTable basis.timetable k matrix old.out new.out × (new.err ≡ old.err) × (status ≡ 0))
    ⊎ ((IsCutOff basis.timetable k matrix old.out new.out × IsUnwritten old.err new.err status)
    ⊎ (IsBrokenOff basis.timetable k matrix old.out new.out × IsNoMemory old.err new.err status))

-- what is asked for, by files of these bytes, is printed; or its fault is said, and nothing is printed
abbrev pub IsTabled : Telling → Voice → BasisData → ℕ → Question → List ℕ → List ℕ → Asked → StreamsData → StreamsData → ℕ → Type 0
IsTabled t voice basis k question from to asked old new status =
    ((fault : Fault) × IsNoMatrix basis asked fault × IsUntabled t voice question from to fault old new status)
    ⊎ ((matrix : Matrix) × IsMatrix basis asked matrix × IsTablePrinted basis k matrix old new status)

-- the ids of a table are those that files of these bytes list
pub record AreListed (from to : List ℕ) (asked : Asked) : Type 0 where
  pub origins : map (λ id. id.now) asked.origins.now ≡ ids_in from
  pub goals : map (λ id. id.now) asked.goals.now ≡ ids_in to

-- The files have these bytes. That of the stops to leave from isn't read, or else that of those to go to; or a table between their stops is
-- asked for.
abbrev pub IsMatrixTold : Telling → Voice → BasisData → ℕ → Question → List ℕ → List ℕ → StreamsData → StreamsData → ℕ → Type 0
IsMatrixTold t voice basis k question from to old new status =
    IsUnreadList question.from.now from old new status
    ⊎ ((IsList from × IsUnreadList question.to.now to old new status)
    ⊎ (IsList from × IsList to × ((asked : Asked) × AreListed from to asked
    × IsWindow basis question question.within asked.first asked.last × IsTabled t voice basis k question from to asked old new status)))

-- so for whatever bytes the files have
abbrev pub IsMatrixRun : SystemView → Voice → BasisData → ℕ → Question → StreamsData → StreamsData → ℕ → Type 0
IsMatrixRun v voice basis k question old new status =
    (from to : List ℕ) → v.world.has question.from.now from → v.world.has question.to.now to
    → IsMatrixTold v.telling voice basis k question from to old new status
