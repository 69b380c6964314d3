-- The connections of a window between places, from the trees of a store.
-- RAPTOR (Delling, Pajor, Werneck, ALENEX 2012), section 4, on range queries.
use Rattle.std.specs.Prelude.{◌⊎◌, ℕ, Bool, List, Option}
use Rattle.std.specs.List.{All, AllZip, Contains}
use Rattle.disk_model.specs.Disk.{State}
use Rattle.timetable.specs.Journeys.{IsLeast}
use Rattle.pattern_tree.specs.Content.{Content}
use Rattle.pattern_query.specs.Leaving.{LeavesLast}
use Rattle.pattern_query.specs.Questions.{ReachesBetween}
use Rattle.feed_ids.specs.Names.{stops_at}
use Rattle.section_store.specs.Lasting.{IsExact, IsTrusted}
use Rattle.section_store.specs.Sections.{Stands, sources}
use Rattle.store_excerpt.specs.Board.{IsWholeAmong}
use Rattle.recovery.specs.Opening.{IsOpening, StandsForSources}
use Rattle.questions.specs.declared.question.Question.{Question}
use Rattle.connection_lines.specs.declared.connections.Connections.{Connections}
use Rattle.connections.specs.declared.connection.Connection.{Connection}
use Rattle.faults.specs.declared.fault.Fault.{Fault}
use Rattle.feed_basis.specs.Basis.{BasisData}
use Rattle.store_answers.specs.Asked.{IsStoredPoint, IsUnstored, StoredReaches}
use Rattle.store_terms.specs.Stores.{IsUnopened, form_over}
use Rattle.told_connections.specs.Windows.{IsRefusedWithin, IsRightWithin, IsWalk, TellsConnection, TellsNext, between}
use Rattle.told_connections.specs.Next.{AreChosen}
use Rattle.told_connections.specs.declared.times.Times.{Times}

-- The trees of the first stops are among these, and each connection is a journey of these trees. Of those with its numbers and its
-- departure it is one that walks least. The connections are those of all journeys of these trees. If the trees of the first stops are
-- complete, they are those of all journeys of at most k rides.
pub record AreStoredTold (basis : BasisData) (k : ℕ) (trees : List Content) (legs : Bool) (asked : Option ℕ) (froms tos : List ℕ)
    (first last : ℕ) (shown : Connections) : Type 0 where
  pub stored : All (Contains (sources trees)) froms
  pub found : List Connection
  pub next : ℕ
  pub journeys : All (λ c. IsStoredPoint basis.timetable trees froms tos c.departure c.journey) found
  pub least : All (λ c. LeavesLast basis.timetable (IsStoredPoint basis.timetable trees froms tos c.departure) c.journey) found
  pub right : AreChosen (StoredReaches basis.timetable trees froms tos) (between first last) asked found next
  pub exact : All (IsWholeAmong (form_over basis k) froms) trees
      → AreChosen (ReachesBetween basis.timetable k froms tos) (between first last) asked found next
  pub told : AllZip (TellsConnection basis legs) found shown.list.items
  pub rest : TellsNext basis.cover next last shown.next
  pub walk : IsLeast (IsWalk basis.timetable froms tos) shown.walk

-- The connections, from the trees that the file stands for; and nothing was done but to open it. Of a trusted disk all these trees are
-- exact, so that they are those of all journeys.
pub record IsStoredWindow (basis : BasisData) (k : ℕ) (times : Times) (question : Question) (legs : Bool) (old new : State)
    (shown : Connections) : Type 0 where
  pub trees : List Content
  pub stands : Stands (form_over basis k) old.read trees
  pub answered : IsRightWithin basis (AreStoredTold basis k trees legs times.next) times question shown
  pub trusted : IsTrusted (form_over basis k) old → All (IsExact (form_over basis k)) trees
  pub opening : IsOpening (form_over basis k) old new

-- why the question has no answer from the trees of the list that the file stands for
pub record IsUnansweredFromWithin (basis : BasisData) (k : ℕ) (times : Times) (question : Question) (old new : State) (fault : Fault) : Type 0 where
  pub list : List ℕ
  pub stands : StandsForSources (form_over basis k) list old.read
  pub why : IsRefusedWithin (stops_at basis.names) (IsUnstored basis list question) basis.timetable times question fault
  pub opening : IsOpening (form_over basis k) old new

-- the store isn't opened; or else the question has no answer
abbrev pub IsStoredRefusalWithin : BasisData → ℕ → Times → Question → State → State → Fault → Type 0
IsStoredRefusalWithin basis k times question old new fault =
    IsUnopened (form_over basis k) old new fault ⊎ IsUnansweredFromWithin basis k times question old new fault
