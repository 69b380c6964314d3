-- Which service a trip's number names, in plain words.
-- GTFS Schedule, trips.txt.
use Rattle.std.specs.Prelude.{◌≡◌, ℕ, Some, slice_get}
use Rattle.std.specs.List.{All}
use Rattle.gtfs_text.specs.Sheets.{Table}
use Rattle.gtfs_rows.specs.Rows.{rows_of}
use Rattle.gtfs_services.specs.Trips.{service_id, service_values, trip_value}

-- the service of the number that a row's trip has is the one that the row names
abbrev pub HasItsService : Table → ℕ → Type 0
HasItsService table row = slice_get (service_values table) (trip_value table row).service ≡ Some (service_id table row)

-- so has each trip
abbrev pub TripsHaveTheirServices : Type 0
TripsHaveTheirServices = (table : Table) → All (HasItsService table) (rows_of table)
