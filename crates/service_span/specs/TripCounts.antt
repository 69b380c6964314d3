-- How many trips run on each of some dates in a row.
use Rattle.std.specs.Prelude.{◌≡◌, ◌<◌, ◌≤◌, ℕ, List, length, slice_index_or}
use Rattle.std.specs.List.{All}
use Rattle.jiff_core.specs.declared.civil.date.Date.{Date}
use Rattle.gtfs_tables.specs.Tables.{TableValues}
use Rattle.service_days.specs.Noon.{IsDaysAfter}
use Rattle.service_span.specs.Days.{trips_on}
use Rattle.service_span.specs.declared.trips.DayTrips.{DayTrips}

-- `days` days from the first on, fewer only if the calendar has no further date, each with the number of its trips
pub record AreDayTrips (t : TableValues) (first : Date) (days : ℕ) (list : List DayTrips) : Type 0 where
  pub few : length list ≤ days
  pub all : length list < days → (date : Date) → ¬ (IsDaysAfter (length list) first date)
  pub dates : (n : ℕ) (none : DayTrips) → n < length list → IsDaysAfter n first (slice_index_or list n none).date
  pub trips : All (λ day. day.trips ≡ trips_on t day.date) list
