-- Which of the journeys with the same numbers is given: of those the one that leaves last, and of those that leave as late one that walks
-- least.
-- RAPTOR (Delling, Pajor, Werneck, ALENEX 2012), section 4: of journeys that arrive as early, one that departs later dominates.
use Rattle.std.specs.Prelude.{Option, ◌≡◌, ℕ, ◌+◌, ◌<◌, ◌≤◌, ◌⊎◌, Bool, true, false, List, [], ◌∷◌, length, Some, None}
use Rattle.std.specs.Option.{option_map, unwrap_or}
use Rattle.timetable.specs.declared.parts.Leg.{Leg}
use Rattle.timetable.specs.declared.parts.Numbers.{Numbers}
use Rattle.timetable.specs.Table.{Table}
use Rattle.timetable.specs.Journeys.{foot, Onward, Journey, pattern}
use Rattle.pattern_tree.specs.Forest.{Step}
use Rattle.pattern_query.specs.Answer.{PointData, numbers, IsJourney}
use Rattle.pattern_query.specs.BestSoFar.{at, IsKept, IsAlong, Searched}
use Rattle.pattern_query.specs.Way.{Exactly}

-- the seconds on foot from p to t, if the rides are those of the path; a change at a stop is no walk
abbrev pub walked : Table → ℕ → List Step → ℕ → ℕ
walked table p [] t = unwrap_or (foot table p t) 0
walked table p (step ∷ path) t = unwrap_or (foot table p step.0) 0 + walked table step.1 path t

-- the seconds on foot of a journey
abbrev pub on_foot : Table → PointData → ℕ
on_foot table p = walked table p.from (pattern table p.legs) p.to

-- p leaves later than q, or as late and walks no more
abbrev pub IsPreferred : Table → PointData → PointData → Type 0
IsPreferred table p q = (q.departure < p.departure) ⊎ ((q.departure ≡ p.departure) × (on_foot table p ≤ on_foot table q))

-- of the journeys of the set that have its numbers, p leaves last, and walks no more than those that leave as late
abbrev pub LeavesLast : Table → (PointData → Type 0) → PointData → Type 0
LeavesLast table Of p = (q : PointData) → Of q → numbers q ≡ numbers p → IsPreferred table p q

-- one can't leave later than p for its numbers, by a journey of a set of which the numbers are known by their departures
abbrev pub IsLatest : (ℕ → Numbers → Type 0) → PointData → Type 0
IsLatest Of p = (e : ℕ) → Of e (numbers p) → e ≤ p.departure

-- the points are journeys at d
abbrev pub AreJourneys : Table → ℕ → List (Option PointData) → Type 0
AreJourneys table d slots = (r : ℕ) (p : PointData) → at slots r ≡ Some p → (s : ℕ) × (t : ℕ) × IsJourney table s t d p

-- Each number of rides has a point if it had one, with the same numbers. The point was there or is of the set, and it's preferred to what
-- was there. Those that are kept leave last of the set.
pub record LeaveLast (table : Table) (Of : PointData → Type 0) (old new : List (Option PointData)) : Type 0 where
  pub same : (r : ℕ) → option_map numbers (at new r) ≡ option_map numbers (at old r)
  pub attained : (r : ℕ) (p : PointData) → at new r ≡ Some p → (at old r ≡ Some p) ⊎ Of p
  pub later : (r : ℕ) (p q : PointData) → at new r ≡ Some p → at old r ≡ Some q → IsPreferred table p q
  pub last : (r : ℕ) (p : PointData) → IsKept new r p → LeavesLast table Of p

-- ---- along one path

-- one who is at p at the moment a, before any ride or after one, takes the legs and the walks between and after them, and is at t at z
abbrev pub GoesOn : Table → Bool → ℕ → ℕ → List Leg → ℕ → ℕ → Type 0
GoesOn table false = Journey table
GoesOn table true = Onward table

-- one who is at p at the moment a can take rides along the path, and be at t by then
abbrev pub CanTake : Table → Bool → ℕ → List Step → ℕ → ℕ → ℕ → Type 0
CanTake table ridden p path t by a =
    (legs : List Leg) × (z : ℕ) × (pattern table legs ≡ path) × GoesOn table ridden p a legs t z × (z ≤ by)

-- the moment is the last that is so
abbrev pub IsLastMoment : (ℕ → Type 0) → ℕ → Type 0
IsLastMoment Of a = Of a × ((b : ℕ) → Of b → b ≤ a)

-- The moment a is `seconds` before `moment`, if they are known.
abbrev pub IsBack : Option ℕ → ℕ → ℕ → Type 0
IsBack seconds moment a = (w : ℕ) × (seconds ≡ Some w) × (a + w ≡ moment)

-- what a search of this path only finds, if nothing was found before
pub record IsFound (table : Table) (s t d : ℕ) (path : List Step) (found : Option PointData) : Type 0 where
  pub empty : List (Option PointData)
  pub slots : List (Option PointData)
  pub none : (r : ℕ) → at empty r ≡ None
  pub searched : Searched table s t d (Exactly path) empty slots
  pub here : at slots (length path) ≡ found

-- the journey along the path is preferred to p, arrives no later, and leaves last of those along the path that arrive no later than p
pub record IsBetterAlong (table : Table) (s t d : ℕ) (path : List Step) (p q : PointData) : Type 0 where
  pub along : IsAlong table s t d (Exactly path) q
  pub sooner : q.arrival ≤ p.arrival
  pub preferred : IsPreferred table q p
  pub last : (o : PointData) → IsAlong table s t d (Exactly path) o → o.arrival ≤ p.arrival → IsPreferred table q o
