-- The events of a stop: the moments at which one can leave it and be just in time for a ride.
-- RAPTOR (Delling, Pajor, Werneck, ALENEX 2012), on range queries: a range of departures needs a run at each of these.
use Rattle.std.specs.Prelude.{◌≡◌, ℕ, ◌+◌, ◌⊎◌, List, IsSomeAnd}
use Rattle.std.specs.List.{Contains}
use Rattle.std.specs.List.Sorted.{IsStrictlyIncreasing}
use Rattle.timetable.specs.declared.parts.Leg.{Leg}
use Rattle.timetable.specs.Table.{Table}
use Rattle.timetable.specs.Journeys.{Ride, from, departs, foot}
use Rattle.lines.specs.Lines.{LineData}

-- one who leaves s at e, on foot to where the leg boards, is there when it departs
abbrev pub LeavesFor : Table → ℕ → Leg → ℕ → Type 0
LeavesFor table s leg e = IsSomeAnd (foot table s (from table leg)) (λ w. e + w ≡ departs table leg)

-- one who leaves s at e is just in time for some ride
abbrev pub IsEvent : Table → ℕ → ℕ → Type 0
IsEvent table s e = (leg : Leg) × Ride table leg × LeavesFor table s leg e

-- the moments are the events of the stop, strictly rising
pub record AreEvents (table : Table) (s : ℕ) (moments : List ℕ) : Type 0 where
  pub rising : IsStrictlyIncreasing moments
  pub each : (e : ℕ) → Contains moments e → IsEvent table s e
  pub all : (e : ℕ) → IsEvent table s e → Contains moments e

-- a leg on an instance of the line that boards at this position
abbrev pub IsAt : LineData → ℕ → Leg → Type 0
IsAt line position leg = Contains line.members leg.instance × (leg.board ≡ position)

-- each moment of `new` was there or is an event of the stop; none is lost; none to leave at for a ride that was seen is missed
pub record Gathered (table : Table) (s : ℕ) (Seen : Leg → Type 0) (old new : List ℕ) : Type 0 where
  pub each : (e : ℕ) → Contains new e → Contains old e ⊎ IsEvent table s e
  pub kept : (e : ℕ) → Contains old e → Contains new e
  pub all : (leg : Leg) (e : ℕ) → Seen leg → Ride table leg → LeavesFor table s leg e → Contains new e
