-- stops.txt: its values and its tests.
-- GTFS Schedule, stops.txt.
use Rattle.std.specs.Prelude.{◌≡◌, Bool, not, ℕ, List, [], ◌∷◌, length, codes, nat_le, filter, map, ◌||◌}
use Rattle.std.specs.Str.{bytes_eq}
use Rattle.gtfs_text.specs.Sheets.{Table, column_of}
use Rattle.gtfs_rows.specs.declared.fault.FaultKind.TheVariants as kinds
use Rattle.gtfs_rows.specs.declared.fault.FeedFile.TheVariants as files
use Rattle.gtfs_stops.specs.declared.stops.StopColumns.{StopColumns}
use Rattle.gtfs_stops.specs.declared.stops.StopIds.{StopIds}
use Rattle.gtfs_stops.specs.declared.stops.RowKind.{RowKind}
use Rattle.gtfs_stops.specs.declared.stops.RowKind.TheVariants as row_kinds
use Rattle.gtfs_rows.specs.declared.values.Stop.{Stop}
use Rattle.gtfs_rows.specs.declared.values.Station.{Station}
use Rattle.gtfs_rows.specs.Faults.{Test, test}
use Rattle.gtfs_rows.specs.Rows.{text_at, is_empty, has_new_key, rows_of, has_text, number_in, texts_in, table_tests}

abbrev pub stop_id : Table → ℕ → List ℕ
stop_id table row = text_at table (codes "stop_id") row

abbrev pub location_type : Table → ℕ → List ℕ
location_type table row = text_at table (codes "location_type") row

abbrev pub parent_station : Table → ℕ → List ℕ
parent_station table row = text_at table (codes "parent_station") row

-- a location_type of a stop is 0 or empty, of a station 1
abbrev pub means_stop : List ℕ → Bool
means_stop text = is_empty text || bytes_eq text (codes "0")

abbrev pub means : RowKind → List ℕ → Bool
means row_kinds.Stop text = means_stop text
means row_kinds.Station text = bytes_eq text (codes "1")

-- the rows of a kind
abbrev pub rows_of_kind : RowKind → Table → List ℕ
rows_of_kind kind table = filter (λ row. means kind (location_type table row)) (rows_of table)

-- the ids of those rows
abbrev pub ids_of_kind : RowKind → Table → List (List ℕ)
ids_of_kind kind table = map (stop_id table) (rows_of_kind kind table)

-- the ids of the stops
abbrev pub stop_ids : Table → List (List ℕ)
stop_ids table = ids_of_kind row_kinds.Stop table

-- a parent_station is that of another row, is empty, or names a station of the file
abbrev pub parent_stands : Bool → List ℕ → List (List ℕ) → Bool
parent_stands is_stop parent stations = not is_stop || is_empty parent || has_text stations parent

-- the tests of a row
abbrev pub stop_tests : Table → ℕ → List Test
stop_tests table row =
    test kinds.BadField files.Stops row (not (is_empty (stop_id table row)))
    ∷ test kinds.DuplicateKey files.Stops row (has_new_key table (stop_id table) row)
    ∷ test kinds.UnknownReference files.Stops row
    (parent_stands (means_stop (location_type table row)) (parent_station table row) (ids_of_kind row_kinds.Station table))
    ∷ []

-- a stop, and the number of the station that it belongs to, among the ids of stations
abbrev pub stop_among : List (List ℕ) → Table → ℕ → Stop
stop_among stations table row = record { id = stop_id table row; station = number_in stations (parent_station table row) }

-- the stops of a file
abbrev pub stop_values : Table → List Stop
stop_values table = map (stop_among (ids_of_kind row_kinds.Station table) table) (rows_of_kind row_kinds.Stop table)

-- a station, by its id
abbrev pub station_of : List ℕ → Station
station_of id = record { id = id }

-- the stations of a file
abbrev pub station_values : Table → List Station
station_values table = map station_of (ids_of_kind row_kinds.Station table)

-- at most 1,000,000 stops
abbrev pub has_few_stops : Table → Bool
has_few_stops table = nat_le (length (ids_of_kind row_kinds.Stop table)) 1_000_000

abbrev pub stops_tests : Table → List Test
stops_tests table = table_tests files.Stops (codes "stop_id" ∷ []) stop_tests has_few_stops table

-- where the columns of a table are
pub record AreStopColumns (table : Table) (columns : StopColumns) : Type 0 where
  pub id : columns.id ≡ column_of table (codes "stop_id")
  pub location_type : columns.location_type ≡ column_of table (codes "location_type")
  pub parent : columns.parent ≡ column_of table (codes "parent_station")

-- what the sets of ids hold
pub record AreStopIds (table : Table) (ids : StopIds) : Type 0 where
  pub all : texts_in ids.all.keys ≡ map (stop_id table) (rows_of table)
  pub stops : texts_in ids.stops.keys ≡ ids_of_kind row_kinds.Stop table
  pub stations : texts_in ids.stations.keys ≡ ids_of_kind row_kinds.Station table

-- the ids of all rows, of stops and of stations, as lists
pub record IdLists : Type 0 where
  pub all : List (List ℕ)
  pub stops : List (List ℕ)
  pub stations : List (List ℕ)

-- those of a file
abbrev pub id_lists : Table → IdLists
id_lists table =
    record {
      all = map (stop_id table) (rows_of table);
      stops = ids_of_kind row_kinds.Stop table;
      stations = ids_of_kind row_kinds.Station table;
    }

-- those that sets hold
abbrev pub lists_in : StopIds → IdLists
lists_in ids = record { all = texts_in ids.all.keys; stops = texts_in ids.stops.keys; stations = texts_in ids.stations.keys }
