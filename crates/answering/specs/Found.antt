-- Journeys that were found. Only private clauses cite these words.
use Rattle.std.specs.Prelude.{◌≡◌, ℕ, List, map, Some}
use Rattle.std.specs.List.{All}
use Rattle.timetable.specs.Front.{AreBest}
use Rattle.pattern_query.specs.Answer.{PointData, numbers}
use Rattle.feed_ids.specs.Names.{stops_at}
use Rattle.pattern_query.specs.Questions.{AreComplete, AskedReaches, Held, IsStored, ReachesBetween}
use Rattle.answering.specs.Answers.{IsLastAsked}
use Rattle.questions.specs.declared.question.Question.{Question}
use Rattle.feed_basis.specs.Basis.{BasisData}

-- journeys between the stops of the question's ids at d, from the trees of the first; the best of all if these trees are complete
pub record AreFound (basis : BasisData) (held : Held) (question : Question) (d : ℕ) (points : List PointData) : Type 0 where
  pub froms : List ℕ
  pub tos : List ℕ
  pub leaves : stops_at basis.names question.from.now ≡ Some froms
  pub reaches : stops_at basis.names question.to.now ≡ Some tos
  pub stored : All (IsStored held) froms
  pub each : All (IsLastAsked basis.timetable held froms tos d) points
  pub best : AreBest (AskedReaches basis.timetable held froms tos d) (map numbers points)
  pub exact : (k : ℕ) → AreComplete basis.timetable held k froms
      → AreBest (ReachesBetween basis.timetable k froms tos d) (map numbers points)
