-- trips.txt: its values and its tests.
-- GTFS Schedule, trips.txt.
use Rattle.std.specs.Prelude.{◌≡◌, true, not, ℕ, List, [], ◌∷◌, codes, map, unwrap_or}
use Rattle.gtfs_text.specs.Sheets.{Table, column_of}
use Rattle.gtfs_rows.specs.declared.fault.FaultKind.TheVariants as kinds
use Rattle.gtfs_rows.specs.declared.fault.FeedFile.TheVariants as files
use Rattle.gtfs_services.specs.declared.trips.TripColumns.{TripColumns}
use Rattle.gtfs_rows.specs.declared.values.Trip.{Trip}
use Rattle.gtfs_rows.specs.Faults.{Test, test}
use Rattle.gtfs_rows.specs.Rows.{text_at, is_empty, has_new_key, rows_of, distinct, number_in, table_tests}

abbrev pub trip_id : Table → ℕ → List ℕ
trip_id table row = text_at table (codes "trip_id") row

abbrev pub service_id : Table → ℕ → List ℕ
service_id table row = text_at table (codes "service_id") row

abbrev pub trip_tests : Table → ℕ → List Test
trip_tests table row =
    test kinds.BadField files.Trips row (not (is_empty (trip_id table row)))
    ∷ test kinds.DuplicateKey files.Trips row (has_new_key table (trip_id table) row)
    ∷ test kinds.BadField files.Trips row (not (is_empty (service_id table row)))
    ∷ []

abbrev pub trip_ids : Table → List (List ℕ)
trip_ids table = map (trip_id table) (rows_of table)

-- the services that trips name, in the order of their first trips
abbrev pub service_values : Table → List (List ℕ)
service_values table = distinct (map (service_id table) (rows_of table))

-- the value of a row: a trip, and the number of its service
abbrev pub trip_value : Table → ℕ → Trip
trip_value table row = record { id = trip_id table row; service = unwrap_or (number_in (service_values table) (service_id table row)) 0 }

-- the values of all rows
abbrev pub trip_values : Table → List Trip
trip_values table = map (trip_value table) (rows_of table)

abbrev pub trips_tests : Table → List Test
trips_tests table = table_tests files.Trips (codes "trip_id" ∷ codes "service_id" ∷ []) trip_tests (λ _. true) table

-- where the columns of a table are
pub record AreTripColumns (table : Table) (columns : TripColumns) : Type 0 where
  pub id : columns.id ≡ column_of table (codes "trip_id")
  pub service : columns.service ≡ column_of table (codes "service_id")
