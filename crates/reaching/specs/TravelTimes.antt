-- Travel times from a stop over a window of departures, counted over each of its seconds.
-- RAPTOR (Delling, Pajor, Werneck, ALENEX 2012), section 4: a range query asks for the best journeys of all departures within a range.
use Rattle.std.specs.Prelude.{Option, Some, ◌≡◌, ℕ, ◌+◌, ◌-◌, ◌/◌, ◌<◌, ◌≤◌, List, length}
use Rattle.std.specs.List.{All, AllPairs, Contains}
use Rattle.std.specs.List.Sorted.{IsStrictlyIncreasing}
use Rattle.timetable.specs.declared.parts.Numbers.{Numbers}
use Rattle.timetable.specs.Table.{Table, stops_of}
use Rattle.timetable.specs.Journeys.{IsLeast, Reaches}
use Rattle.reaching.specs.declared.travel_time.TravelTimes.{TravelTimes}

-- one who leaves s at d is at t within x seconds, by a journey of at most k rides
abbrev pub Within : Table → ℕ → ℕ → ℕ → ℕ → ℕ → Type 0
Within table k s t x d = (m : Numbers) × Reaches table 0 k s t d m × (m.arrival ≤ d + x)

-- at least j seconds from `first` to `last` are so
abbrev pub HasSeconds : ℕ → ℕ → (ℕ → Type 0) → ℕ → Type 0
HasSeconds first last Is j =
    (list : List ℕ) × IsStrictlyIncreasing list × All (λ d. (first ≤ d) × (d ≤ last) × Is d) list × (j ≤ length list)

-- the j-th least travel time from s to t: the least number of seconds within which one is there at j seconds of departure or more.
-- None: at fewer seconds one gets there at all
abbrev pub IsRank : Table → ℕ → ℕ → ℕ → ℕ → ℕ → ℕ → Option ℕ → Type 0
IsRank table k s t first last j o = IsLeast (λ x. HasSeconds first last (Within table k s t x) j) o

-- how many seconds a window has
abbrev pub seconds_in : ℕ → ℕ → ℕ
seconds_in first last = last + 1 - first

-- of the travel times at the window's seconds: the least, the median (the lower one of two) and the greatest
pub record AreTimes (table : Table) (k s first last : ℕ) (times : TravelTimes) : Type 0 where
  pub least : IsRank table k s times.stop first last 1 (Some times.least)
  pub median : IsRank table k s times.stop first last ((seconds_in first last + 1) / 2) times.median
  pub greatest : IsRank table k s times.stop first last (seconds_in first last) times.greatest

-- the travel times from s with at most k rides, to each stop that one reaches at some second of the window, by number
pub record AreTravelTimes (table : Table) (k s first last : ℕ) (list : List TravelTimes) : Type 0 where
  pub rising : AllPairs (λ a b. a.stop < b.stop) list
  pub known : All (λ times. times.stop < stops_of table) list
  pub each : All (AreTimes table k s first last) list
  pub all : (t d : ℕ) (m : Numbers) → t < stops_of table → first ≤ d → d ≤ last → Reaches table 0 k s t d m
      → (times : TravelTimes) × Contains list times × (times.stop ≡ t)
