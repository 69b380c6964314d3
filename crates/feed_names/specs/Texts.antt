-- What is shown of stops, trips and routes.
-- GTFS Schedule reference, stops.txt, trips.txt and routes.txt: the fields that riders are shown.
use Rattle.std.specs.Prelude.{◌≡◌, ℕ, List, Option, None, Some, codes}
use Rattle.std.specs.String.{string_bytes}
use Rattle.gtfs_text.specs.Sheets.{Table, bad_record, column_of, records_of, table_of}
use Rattle.feed_names.specs.Rows.{first_row_in, text_at}
use Rattle.feed_names.specs.declared.texts.StopName.{StopName}
use Rattle.feed_names.specs.declared.texts.TripName.{TripName}
use Rattle.feed_names.specs.declared.texts.RouteName.{RouteName}

pub record IsStopName (table : Table) (row : ℕ) (stop : StopName) : Type 0 where
  pub name : string_bytes stop.name ≡ text_at table row (codes "stop_name")
  pub platform : string_bytes stop.platform ≡ text_at table row (codes "platform_code")
  pub latitude : string_bytes stop.latitude ≡ text_at table row (codes "stop_lat")
  pub longitude : string_bytes stop.longitude ≡ text_at table row (codes "stop_lon")

pub record IsTripName (table : Table) (row : ℕ) (trip : TripName) : Type 0 where
  pub route : string_bytes trip.route ≡ text_at table row (codes "route_id")
  pub headsign : string_bytes trip.headsign ≡ text_at table row (codes "trip_headsign")
  pub short_name : string_bytes trip.short_name ≡ text_at table row (codes "trip_short_name")

pub record IsRouteName (table : Table) (row : ℕ) (route : RouteName) : Type 0 where
  pub short_name : string_bytes route.short_name ≡ text_at table row (codes "route_short_name")
  pub long_name : string_bytes route.long_name ≡ text_at table row (codes "route_long_name")

-- what is said of an id is what the first row says that has it in the column of ids; nothing if there is no such row
abbrev pub IsNamed : {X : Type 0} → (Table → ℕ → X → Type 0) → Table → List ℕ → List ℕ → Option X → Type 0
IsNamed tells table key id None = first_row_in table (column_of table key) id ≡ None
IsNamed tells table key id (Some name) = (row : ℕ) × (first_row_in table (column_of table key) id ≡ Some row) × tells table row name

-- the sheet of a file's records if each of them is UTF-8
abbrev pub IsSheetOf : List ℕ → Option Table → Type 0
IsSheetOf bytes None = (row : ℕ) × (bad_record (records_of bytes) ≡ Some row)
IsSheetOf bytes (Some table) = (bad_record (records_of bytes) ≡ None) × (table ≡ table_of (records_of bytes))
