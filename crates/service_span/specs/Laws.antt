-- What the definitions come to.
use Rattle.std.specs.Prelude.{◌≡◌, ◌≤◌, ◌↔◌, true}
use Rattle.jiff_core.specs.declared.civil.date.Date.{Date}
use Rattle.gtfs_tables.specs.Tables.{TableValues}
use Rattle.service_span.specs.Days.{is_service_day, trips_on}

-- a date is a day of service exactly if some trip runs on it
abbrev pub ServiceDaysHaveTrips : Type 0
ServiceDaysHaveTrips = (t : TableValues) (date : Date) → (is_service_day t date ≡ true) ↔ (1 ≤ trips_on t date)
