use Rattle.std.proofs.Common.{◌≡◌, ◌<◌, ℕ, length, slice_index_or}
use Rattle.std.specs.List.{All}
use Rattle.service_days.specs.Noon.{IsDaysAfter}
use Rattle.service_span.specs.Days.{trips_on}
use Rattle.service_span.specs.declared.trips.DayTrips.{DayTrips}
use Rattle.service_span.proofs.trips.trips_by_day.Given as goal

abbrev pub invariant-loop-day : goal.invariant-loop-day
invariant-loop-day l = record {
  long : length l.list.items ≡ l.day;
  dates : (n : ℕ) (none : DayTrips) → n < length l.list.items → IsDaysAfter n l.fn.first (slice_index_or l.list.items n none).date;
  trips : All (λ (day : DayTrips). day.trips ≡ trips_on l.tables day.date) l.list.items;
}
