-- What is answered to a question on one look at a board.
use Rattle.std.specs.Prelude.{◌≡◌, ℕ, List, Some, map}
use mathlib.Core.List.{IsPrefix}
use Rattle.timetable.specs.Table.{stops_of}
use Rattle.pattern_tree.specs.Content.{Content}
use Rattle.timetable.specs.Front.{AreBest}
use Rattle.pattern_query.specs.Answer.{PointData, numbers}
use Rattle.feed_ids.specs.Names.{stops_at}
use Rattle.pattern_query.specs.Questions.{Held, IsAnswer, IsRefusal, ReachesBetween, tree_at}
use Rattle.board.specs.Ties.{BoardPart}
use Rattle.board.specs.Trees.{board_after}
use Rattle.planner.specs.PlannerView.{PlannerView}
use Rattle.planner.specs.declared.fault.AskFault.{AskFault}
use Rattle.planner.specs.declared.fault.AskFault.TheVariants as faults

-- the tree of each stop, once the trees of a list were shown one by one on a board of `stops` stops
abbrev pub held_after : ℕ → List Content → Held
held_after stops list s = tree_at (board_after stops list) s

-- the trees that are held where a reader looks
abbrev pub held_by : PlannerView → BoardPart → Held
held_by p look = held_after (stops_of p.form.table) look.told.list

-- Who asked looked once, and knows now which trees it saw: a list of the same board that begins with all that it knew before.
pub record IsLook (old new : BoardPart) : Type 0 where
  pub later : IsPrefix old.told.list new.told.list
  pub book : new.told.book ≡ old.told.book
  pub origin : new.origin ≡ old.origin

-- an answer from the trees of one look
abbrev pub IsAnswered : PlannerView → BoardPart → BoardPart → List ℕ → List ℕ → ℕ → List PointData → Type 0
IsAnswered p old new from to d points = IsLook old new × IsAnswer p.form.table p.names (held_by p new) from to d points

-- The look was refused, and the reader knows what it knew. Or there is no answer from the trees of one look.
abbrev pub IsUnanswered : PlannerView → BoardPart → BoardPart → List ℕ → List ℕ → ℕ → AskFault → Type 0
IsUnanswered p old new from to d faults.BoardRefused = new ≡ old
IsUnanswered p old new from to d (faults.Question refusal) = IsLook old new × IsRefusal p.form.table p.names (held_by p new) from to d refusal

-- the points are exactly the best of all journeys of at most the planner's rides from a stop of one place to a stop of the other
pub record AreBestBetween (p : PlannerView) (from to : List ℕ) (d : ℕ) (points : List PointData) : Type 0 where
  pub froms : List ℕ
  pub tos : List ℕ
  pub leaves : stops_at p.names from ≡ Some froms
  pub arrives : stops_at p.names to ≡ Some tos
  pub best : AreBest (ReachesBetween p.form.table p.form.rides froms tos d) (map numbers points)
