-- The ways on from all stops, by the rides that are left. Only private clauses cite these words.
use Rattle.std.specs.Prelude.{◌≡◌, ℕ, ◌<◌, ◌≤◌, Bool, true, List, [], length}
use Rattle.std.specs.List.{Contains}
use Rattle.timetable.specs.declared.parts.Leg.{Leg}
use Rattle.timetable.specs.Table.{Table, stops_of}
use Rattle.timetable.specs.Journeys.{pattern}
use Rattle.timetable.specs.Legs.{Rides}
use Rattle.pattern_query.specs.Leaving.{walked, GoesOn}
use Rattle.least_walks.specs.Ways.{WayData, HasNoWorse, ways_at, Gathers, RidesAmong, Anywhere}

-- one who is at p at the way's moment, before any ride or after one, takes n rides along its path, and is at t by then
pub record IsWay (table : Table) (ridden : Bool) (t by n p : ℕ) (w : WayData) : Type 0 where
  pub legs : List Leg
  pub arrival : ℕ
  pub counted : length legs ≡ n
  pub goes : GoesOn table ridden p w.moment legs t arrival
  pub in_time : arrival ≤ by
  pub path : w.path ≡ pattern table legs
  pub feet : w.walked ≡ walked table p (pattern table legs) t

-- one who leaves s at d can alight from the n-th ride at p by then
abbrev pub Alights : Table → ℕ → ℕ → ℕ → ℕ → ℕ → Type 0
Alights table s d n p by = (legs : List Leg) × (a : ℕ) × (length legs ≡ n) × Rides table s d legs p a × (a ≤ by)

-- The ways on from each stop with n rides to t. Each of them that can be taken after i rides from s, and has less than `bound` on foot, has
-- one that is no worse.
pub record AreWays (table : Table) (s d t by bound i n : ℕ) (rows : List (List WayData)) : Type 0 where
  pub each : (p : ℕ) (w : WayData) → Contains (ways_at rows p) w → IsWay table true t by n p w
  pub all : (p : ℕ) (w : WayData) → p < stops_of table → IsWay table true t by n p w → Alights table s d i p w.moment → w.walked < bound
      → HasNoWorse (ways_at rows p) w

-- for each stop the ways that begin with a ride from there, and go on by these rows
pub record AreBoards (table : Table) (bound : ℕ) (rows boards : List (List WayData)) : Type 0 where
  pub size : length boards ≡ stops_of table
  pub each : (b : ℕ) → b < stops_of table → Gathers (RidesAmong table b Anywhere rows) 0 bound [] (ways_at boards b)
