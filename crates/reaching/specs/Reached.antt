-- Where one can be, and from when on.
-- RAPTOR (Delling, Pajor, Werneck, ALENEX 2012), section 3: round k has the earliest arrival at each stop with at most k rides.
use Rattle.std.specs.Prelude.{Option, None, Some, ⊤, ◌≡◌, ℕ, ◌<◌, ◌≤◌, ◌⊎◌, List}
use Rattle.std.specs.List.{All, AllPairs, Contains}
use Rattle.timetable.specs.declared.parts.Numbers.{Numbers}
use Rattle.timetable.specs.Table.{Table, stops_of}
use Rattle.timetable.specs.Journeys.{Reaches}
use Rattle.reaching.specs.declared.reached.Reached.{Reached}

-- none of the set arrive earlier than these numbers, and none arrive then with fewer rides
abbrev pub IsSoonest : (Numbers → Type 0) → Numbers → Type 0
IsSoonest Of n = Of n × ((m : Numbers) → Of m → (n.arrival < m.arrival) ⊎ ((n.arrival ≡ m.arrival) × (n.rides ≤ m.rides)))

-- the numbers with which one is at a stop
abbrev pub numbers : Reached → Numbers
numbers r = record { arrival = r.arrival; rides = r.rides }

-- a moment isn't after the last one, if there is a last one
abbrev pub IsBy : Option ℕ → ℕ → Type 0
IsBy None moment = ⊤
IsBy (Some last) moment = moment ≤ last

-- one who leaves s at d is at the stop by `last`, with the soonest numbers of all journeys of at most k rides
abbrev pub IsReached : Table → ℕ → ℕ → ℕ → Option ℕ → Reached → Type 0
IsReached table k s d last r = IsBy last r.arrival × IsSoonest (Reaches table 0 k s r.stop d) (numbers r)

-- each of the first n stops at which one can be by `last` is there
abbrev pub AreAllReached : Table → ℕ → ℕ → ℕ → Option ℕ → ℕ → List Reached → Type 0
AreAllReached table k s d last n list =
    (t : ℕ) (m : Numbers) → t < n → IsBy last m.arrival → IsSoonest (Reaches table 0 k s t d) m
    → (r : Reached) × Contains list r × (r.stop ≡ t) × (numbers r ≡ m)

-- one is at a stop earlier than at another, or then, and its number is lower
abbrev pub IsBefore : Reached → Reached → Type 0
IsBefore a b = (a.arrival < b.arrival) ⊎ ((a.arrival ≡ b.arrival) × (a.stop < b.stop))

-- the stops at which one can be by `last` who leaves s at d with at most k rides: by arrival, then by number
pub record AreReached (table : Table) (k s d : ℕ) (last : Option ℕ) (list : List Reached) : Type 0 where
  pub rising : AllPairs IsBefore list
  pub within : All (λ r. r.stop < stops_of table) list
  pub each : All (IsReached table k s d last) list
  pub all : AreAllReached table k s d last (stops_of table) list
