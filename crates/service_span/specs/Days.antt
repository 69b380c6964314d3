-- Days of service, and how many trips run on a date. GTFS Schedule, calendar.txt and calendar_dates.txt.
use Rattle.std.specs.Prelude.{ℕ, Bool, List, [], slice_index_or, count_by}
use Rattle.std.specs.List.{list_any}
use Rattle.jiff_core.specs.declared.civil.date.Date.{Date}
use Rattle.gtfs_rows.specs.declared.values.Trip.{Trip}
use Rattle.gtfs_tables.specs.Tables.{TableValues}
use Rattle.service_days.specs.Runs.{runs}

-- the service that a trip names
abbrev pub service_of : TableValues → Trip → List ℕ
service_of t trip = slice_index_or t.services trip.service []

-- a date is a day of service if some service that a trip names runs on it
unfoldable pub is_service_day : TableValues → Date → Bool
is_service_day t date = list_any (λ trip. runs t (service_of t trip) date) t.trips

-- how many trips have a service that runs on the date
unfoldable pub trips_on : TableValues → Date → ℕ
trips_on t date = count_by (λ trip. runs t (service_of t trip) date) t.trips
