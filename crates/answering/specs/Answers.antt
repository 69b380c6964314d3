-- What the program answers to a question, by the timetable and the covered days.
-- RAPTOR (Delling, Pajor, Werneck, ALENEX 2012), section 2: the Pareto set of arrival time and number of trips.
use Rattle.std.specs.Prelude.{◌≡◌, ℕ, ◌≤◌, Bool, true, false, List, [], Option, Some}
use Rattle.std.specs.List.{All, AllZip, Contains}
use Rattle.timetable.specs.declared.parts.Leg.{Leg}
use Rattle.timetable.specs.declared.parts.Numbers.{Numbers}
use Rattle.timetable.specs.Journeys.{Serves, arrives}
use Rattle.timetable.specs.Table.{Table}
use Rattle.timetable.specs.Front.{AreBest}
use Rattle.pattern_query.specs.Answer.{PointData, numbers, IsJourney}
use Rattle.pattern_query.specs.Leaving.{IsLatest, LeavesLast}
use Rattle.pattern_query.specs.Questions.{AreComplete, AskedReaches, Held, IsAskedPoint, IsStored, ReachesBetween}
use Rattle.answer_lines.specs.declared.answer.Answer.{Answer}
use Rattle.answer_lines.specs.declared.answer.Answer.TheVariants as answers
use Rattle.answer_lines.specs.declared.answer.Point.{Point}
use Rattle.feed_basis.specs.Basis.{BasisData}
use Rattle.questions.specs.declared.question.Question.{Question}
use Rattle.answer_lines.specs.declared.stage.Stage.{Stage}
use Rattle.answer_lines.specs.Moments.{TellsMoment}
use Rattle.feed_basis.specs.Stages.{TellsStage, stages_of}

-- the leg is a ride from one of the first stops to one of the others that departs at d or later
abbrev pub IsRideBetween : BasisData → List ℕ → List ℕ → ℕ → Leg → Type 0
IsRideBetween basis froms tos d leg = (p : ℕ) × (q : ℕ) × Contains froms p × Contains tos q × Serves basis.timetable p q d leg

-- no ride only if there is none, else the arrival of a ride that arrives as early as any
abbrev pub IsDirect : BasisData → List ℕ → List ℕ → ℕ → Answer → Type 0
IsDirect basis froms tos d answers.NoRide = (leg : Leg) → ¬ IsRideBetween basis froms tos d leg
IsDirect basis froms tos d (answers.Arrive time) =
    (leg : Leg) × IsRideBetween basis froms tos d leg
    × ((other : Leg) → IsRideBetween basis froms tos d other → arrives basis.timetable leg ≤ arrives basis.timetable other)
    × TellsMoment basis.cover (arrives basis.timetable leg) time
IsDirect basis froms tos d (answers.Points points) = ⊥

-- the point is a journey at d from one of the first stops to one of the others
abbrev pub IsPointBetween : Table → List ℕ → List ℕ → ℕ → PointData → Type 0
IsPointBetween table froms tos d p = (s : ℕ) × (t : ℕ) × Contains froms s × Contains tos t × IsJourney table s t d p

-- some point of the set has these numbers
abbrev pub IsReached : (PointData → Type 0) → Numbers → Type 0
IsReached Of n = (p : PointData) × Of p × (numbers p ≡ n)

-- the stages are the rides and walks of a point of the set with these numbers, by one who leaves at its departure
pub record AreStagesOf (basis : BasisData) (Of : PointData → Type 0) (n : Numbers) (stages : List Stage) : Type 0 where
  pub point : PointData
  pub is : Of point
  pub reaches : numbers point ≡ n
  pub told : AllZip (TellsStage basis) (stages_of basis.timetable point.from point.departure point.legs point.to) stages

-- what is reported has the rides and the arrival of these numbers, and the stages of such a point if they are wanted
pub record TellsReached (basis : BasisData) (Of : PointData → Type 0) (wanted : Bool) (n : Numbers) (told : Point) : Type 0 where
  pub rides : told.rides ≡ n.rides
  pub at : TellsMoment basis.cover n.arrival told.at
  pub staged : wanted ≡ true → AreStagesOf basis Of n told.stages.items
  pub unstaged : wanted ≡ false → told.stages.items ≡ []

-- each point reports the numbers of this front at its index
abbrev pub TellsFront : BasisData → (PointData → Type 0) → Bool → List Numbers → Answer → Type 0
TellsFront basis Of wanted front answers.NoRide = ⊥
TellsFront basis Of wanted front (answers.Arrive time) = ⊥
TellsFront basis Of wanted front (answers.Points points) = AllZip (TellsReached basis Of wanted) front points.items

-- A journey between these stops. Of all with its numbers none leaves later, and of those that leave as late none walks less. No journey
-- of at most k rides leaves later for its numbers.
pub record IsLastBetween (table : Table) (k : ℕ) (froms tos : List ℕ) (d : ℕ) (p : PointData) : Type 0 where
  pub is : IsPointBetween table froms tos d p
  pub last : LeavesLast table (IsPointBetween table froms tos d) p
  pub latest : IsLatest (ReachesBetween table k froms tos) p

-- A journey of the held trees. Of those with its numbers none leaves later, and of those that leave as late none walks less. If the trees
-- are complete, no journey of at most k rides leaves later for its numbers.
pub record IsLastAsked (table : Table) (held : Held) (froms tos : List ℕ) (d : ℕ) (p : PointData) : Type 0 where
  pub is : IsAskedPoint table held froms tos d p
  pub last : LeavesLast table (IsAskedPoint table held froms tos d) p
  pub latest : (k : ℕ) → AreComplete table held k froms → IsLatest (ReachesBetween table k froms tos) p

-- the best numbers over journeys of at most k rides between these stops, by rising rides
abbrev pub ArePoints : BasisData → ℕ → Bool → List ℕ → List ℕ → ℕ → Answer → Type 0
ArePoints basis k wanted froms tos d answer =
    (front : List Numbers) × AreBest (ReachesBetween basis.timetable k froms tos d) front
    × TellsFront basis (IsLastBetween basis.timetable k froms tos d) wanted front answer

-- The answer from the trees that are held: those of the first stops are among them, and each point is a journey of these trees with its
-- numbers. The points are the best of all journeys of these trees; if the trees are complete, the best over all journeys of at most k
-- rides.
pub record AreTreePoints (basis : BasisData) (held : Held) (wanted : Bool) (froms tos : List ℕ) (d : ℕ) (answer : Answer) : Type 0 where
  pub stored : All (IsStored held) froms
  pub front : List Numbers
  pub journeys : All (IsReached (IsAskedPoint basis.timetable held froms tos d)) front
  pub best : AreBest (AskedReaches basis.timetable held froms tos d) front
  pub shown : TellsFront basis (IsLastAsked basis.timetable held froms tos d) wanted front answer
  pub exact : (k : ℕ) → AreComplete basis.timetable held k froms → AreBest (ReachesBetween basis.timetable k froms tos d) front

-- the question's ids stand for these stops, and its moment is this one, which is covered
pub record IsAsked (stops : List ℕ → Option (List ℕ)) (table : Table) (moment : Option ℕ) (question : Question) (froms tos : List ℕ)
    (depart : ℕ) : Type 0 where
  pub leaves : stops question.from.now ≡ Some froms
  pub reaches : stops question.to.now ≡ Some tos
  pub leaves_at : moment ≡ Some depart
  pub covered : depart ≤ table.horizon

-- the answer is right between the question's stops at its moment
abbrev pub IsAnswered : (List ℕ → Option (List ℕ)) → (List ℕ → List ℕ → ℕ → Answer → Type 0) → Table → Option ℕ → Question → Answer → Type 0
IsAnswered stops Right table moment question answer =
    (froms : List ℕ) × (tos : List ℕ) × (depart : ℕ) × IsAsked stops table moment question froms tos depart × Right froms tos depart answer
