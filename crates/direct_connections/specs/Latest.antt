-- The last ride from a stop to a stop that arrives by a moment: what the backward search along a pattern takes at each step, as the
-- forward search takes the first ride that departs in time.
use Rattle.std.specs.Prelude.{◌≡◌, ℕ, ◌<◌, ◌≤◌, List, length, slice_index_or}
use Rattle.timetable.specs.declared.parts.Leg.{Leg}
use Rattle.timetable.specs.Table.{Table}
use Rattle.timetable.specs.Journeys.{Ride, from, to, departs, arrives}
use Rattle.lines.specs.declared.line.Times.{Times}
use Rattle.lines.specs.declared.lines.LinePosition.{LinePosition}
use Rattle.lines.specs.Lines.{LineData}
use Rattle.direct_connections.specs.declared.latest.LastRide.{LastRide}
use Rattle.direct_connections.specs.Search.{BoardsAt}

-- the leg is a ride from p to q that arrives at `by` or before
pub record ServesBy (table : Table) (p q by : ℕ) (leg : Leg) : Type 0 where
  pub ride : Ride table leg
  pub starts : from table leg ≡ p
  pub ends : to table leg ≡ q
  pub in_time : arrives table leg ≤ by

-- the first n of the times arrive by the moment, and the others don't
pub record ArriveBy (times : List Times) (by n : ℕ) : Type 0 where
  pub within : n ≤ length times
  pub these : (k : ℕ) (d : Times) → k < n → (slice_index_or times k d).arrival ≤ by
  pub others : (k : ℕ) (d : Times) → n ≤ k → k < length times → by < (slice_index_or times k d).arrival

-- A ride from p to q that arrives by then and departs at `since` or later, with its departure. It departs as late as any such ride that
-- boards the line at this position.
pub record IsLastRide (table : Table) (lines : List LineData) (p q by since : ℕ) (board : LinePosition) (ride : LastRide) : Type 0 where
  pub serves : ServesBy table p q by ride.leg
  pub departure : ride.departure ≡ departs table ride.leg
  pub late : since ≤ ride.departure
  pub most : (other : Leg) → ServesBy table p q by other → BoardsAt lines board other → departs table other ≤ ride.departure
