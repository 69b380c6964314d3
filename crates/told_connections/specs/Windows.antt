-- The connections of a window, as they are reported.
use Rattle.std.specs.Prelude.{◌≡◌, ◌⊎◌, ℕ, ◌<◌, ◌≤◌, Bool, true, List, [], ◌∷◌, Option, None, Some}
use Rattle.std.specs.List.{All, AllZip, Contains}
use Rattle.timetable.specs.Journeys.{IsLeast, Reaches, foot}
use Rattle.timetable.specs.Table.{Table}
use Rattle.pattern_query.specs.Answer.{IsJourney}
use Rattle.pattern_query.specs.Leaving.{LeavesLast}
use Rattle.pattern_query.specs.Questions.{AreComplete, AskedReaches, Held, IsAskedPoint, IsStored, ReachesBetween}
use Rattle.answer_lines.specs.Moments.{TellsMoment}
use Rattle.answer_lines.specs.declared.moment.DayTime.{DayTime}
use Rattle.answering.specs.Answers.{IsAsked}
use Rattle.answering.specs.Refusals.{IsMissing, IsUnanswered, NoneMissing}
use Rattle.connection_lines.specs.declared.connections.Connection.{Connection as Line}
use Rattle.connection_lines.specs.declared.connections.Connections.{Connections}
use Rattle.connections.specs.Connections.{WalksLeast}
use Rattle.connections.specs.declared.connection.Connection.{Connection}
use Rattle.connections.specs.declared.connection.Window.{Window}
use Rattle.faults.specs.declared.fault.Fault.{Fault}
use Rattle.feed_basis.specs.Basis.{BasisData}
use Rattle.feed_basis.specs.Ids.{stop_alone}
use Rattle.feed_ids.specs.Names.{stops_at}
use Rattle.questions.specs.declared.question.Question.{Question}
use Rattle.service_days.specs.Cover.{CoverDays}
use Rattle.told_connections.specs.Next.{AreChosen}
use Rattle.told_connections.specs.declared.times.Times.{Times}
use Rattle.feed_basis.specs.Points.{Tells}

-- a line reports the connection by the last moment to leave for it and by its journey, which begins then
pub record TellsConnection (basis : BasisData) (wanted : Bool) (c : Connection) (line : Line) : Type 0 where
  pub departs : TellsMoment basis.cover c.departure line.departs
  pub journey : Tells basis c.departure wanted c.journey line.journey

-- nothing is left of the window up to `last`, or what departs from the reported moment on
abbrev pub TellsNext : CoverDays → ℕ → ℕ → Option DayTime → Type 0
TellsNext cover next last None = last < next
TellsNext cover next last (Some time) = (next ≤ last) × TellsMoment cover next time

abbrev pub between : ℕ → ℕ → Window
between first last = record { first = first; last = last }

-- The connections from s to t of at most k rides that depart from `first` to `last` are reported, and the way on foot. They are all
-- connections, or else those before the reported moment, which are enough; or the first ones, as many as are asked for. If their rides are
-- wanted, then of all journeys with its numbers and its departure each is one that walks least.
pub record AreTold (basis : BasisData) (k : ℕ) (wanted : Bool) (s t first last : ℕ) (asked : Option ℕ) (shown : Connections) : Type 0 where
  pub found : List Connection
  pub next : ℕ
  pub journeys : All (λ c. IsJourney basis.timetable s t c.departure c.journey) found
  pub least : wanted ≡ true → All (λ c. LeavesLast basis.timetable (IsJourney basis.timetable s t c.departure) c.journey) found
  pub right : AreChosen (Reaches basis.timetable 0 k s t) (between first last) asked found next
  pub told : AllZip (TellsConnection basis wanted) found shown.list.items
  pub rest : TellsNext basis.cover next last shown.next
  pub walk : shown.walk ≡ foot basis.timetable s t

-- the question's stops, its moment and its last moment, which are covered, have these connections
pub record IsAnsweredWithin (basis : BasisData) (k : ℕ) (wanted : Bool) (times : Times) (question : Question) (shown : Connections) : Type 0 where
  pub s : ℕ
  pub t : ℕ
  pub first : ℕ
  pub last : ℕ
  pub asked : IsAsked (stop_alone basis.names) basis.timetable times.moment question (s ∷ []) (t ∷ []) first
  pub until_is : times.until ≡ Some last
  pub covered : last ≤ basis.timetable.horizon
  pub told : AreTold basis k wanted s t first last times.next shown

-- one walks `seconds` seconds from one of the first stops to one of the others
abbrev pub IsWalk : Table → List ℕ → List ℕ → ℕ → Type 0
IsWalk table froms tos seconds = (s : ℕ) × Contains froms s × (t : ℕ) × Contains tos t × (foot table s t ≡ Some seconds)

-- So it is between places, by the trees that are held: those of the first stops are among them, and each connection is a journey of these
-- trees, of those with its numbers and its departure one that walks least. The connections are those of all journeys of these trees; if the
-- trees are complete, those of all journeys of at most k rides.
pub record AreAskedTold (basis : BasisData) (held : Held) (wanted : Bool) (asked : Option ℕ) (froms tos : List ℕ) (first last : ℕ)
    (shown : Connections) : Type 0 where
  pub stored : All (IsStored held) froms
  pub found : List Connection
  pub next : ℕ
  pub journeys : All (λ c. IsAskedPoint basis.timetable held froms tos c.departure c.journey) found
  pub least : All (WalksLeast basis.timetable held froms tos) found
  pub right : AreChosen (AskedReaches basis.timetable held froms tos) (between first last) asked found next
  pub exact : (k : ℕ) → AreComplete basis.timetable held k froms
      → AreChosen (ReachesBetween basis.timetable k froms tos) (between first last) asked found next
  pub told : AllZip (TellsConnection basis wanted) found shown.list.items
  pub rest : TellsNext basis.cover next last shown.next
  pub walk : IsLeast (IsWalk basis.timetable froms tos) shown.walk

-- the question's places, its moment and its last moment, which are covered, are right by these words
pub record IsRightWithin (basis : BasisData) (Right : List ℕ → List ℕ → ℕ → ℕ → Connections → Type 0) (times : Times) (question : Question)
    (shown : Connections) : Type 0 where
  pub froms : List ℕ
  pub tos : List ℕ
  pub first : ℕ
  pub last : ℕ
  pub asked : IsAsked (stops_at basis.names) basis.timetable times.moment question froms tos first
  pub until_is : times.until ≡ Some last
  pub covered : last ≤ basis.timetable.horizon
  pub right : Right froms tos first last shown

-- the connections between the question's places, by the trees that are held
abbrev pub IsAskedWithin : BasisData → Held → Bool → Times → Question → Connections → Type 0
IsAskedWithin basis held wanted times question shown =
    IsRightWithin basis (AreAskedTold basis held wanted times.next) times question shown

-- the question is refused at its moment, or else at its last one; or memory ran out
abbrev pub IsRefusedWithin : (List ℕ → Option (List ℕ)) → (List ℕ → Type 0) → Table → Times → Question → Fault → Type 0
IsRefusedWithin stops Missing table times question fault =
    IsUnanswered stops Missing table times.moment question fault ⊎ IsUnanswered stops Missing table times.until question fault

-- between stops, no tree is missed; between places, one of the first place's stops may be
abbrev pub IsUnansweredWithin : BasisData → Times → Question → Fault → Type 0
IsUnansweredWithin basis times question fault = IsRefusedWithin (stop_alone basis.names) NoneMissing basis.timetable times question fault

abbrev pub IsUnaskedWithin : BasisData → Held → Times → Question → Fault → Type 0
IsUnaskedWithin basis held times question fault =
    IsRefusedWithin (stops_at basis.names) (IsMissing basis held question) basis.timetable times question fault
