-- transfers.txt: its values and its tests.
-- GTFS Schedule, transfers.txt.
use Rattle.std.specs.Prelude.{◌≡◌, ◌<◌, ◌≤◌, Bool, true, not, ℕ, List, [], ◌∷◌, length, codes, nat_le, filter, Option, None, Some, is_some, is_none, option_map, option_and_then, if◌then◌else◌, ◌&&◌, ◌||◌}
use Rattle.std.specs.Option.{IfSome}
use Rattle.std.specs.List.{filter_map}
use Rattle.std.specs.Str.{bytes_eq}
use Rattle.gtfs_text.specs.Sheets.{Table, column_of}
use Rattle.gtfs_text.specs.Values.{whole_of}
use Rattle.gtfs_rows.specs.declared.fault.FaultKind.TheVariants as kinds
use Rattle.gtfs_rows.specs.declared.fault.FeedFile.TheVariants as files
use Rattle.gtfs_stops.specs.declared.transfers.TransferColumns.{TransferColumns}
use Rattle.gtfs_rows.specs.declared.values.Place.{Place}
use Rattle.gtfs_rows.specs.declared.values.Place.TheVariants as places
use Rattle.gtfs_rows.specs.declared.values.Transfer.{Transfer}
use Rattle.gtfs_rows.specs.declared.values.TransferType.{TransferType}
use Rattle.gtfs_rows.specs.declared.values.TransferType.TheVariants as types
use Rattle.gtfs_rows.specs.Faults.{Test, test}
use Rattle.gtfs_rows.specs.Rows.{text_at, is_empty, has_text, number_in, rows_of, table_tests}
use Rattle.gtfs_stops.specs.Stops.{IdLists}

abbrev pub from_id : Table → ℕ → List ℕ
from_id table row = text_at table (codes "from_stop_id") row

abbrev pub to_id : Table → ℕ → List ℕ
to_id table row = text_at table (codes "to_stop_id") row

abbrev pub type_text : Table → ℕ → List ℕ
type_text table row = text_at table (codes "transfer_type") row

abbrev pub time_text : Table → ℕ → List ℕ
time_text table row = text_at table (codes "min_transfer_time") row

-- the type that a text says, of those between stops: an empty one is the first
abbrev pub type_of : List ℕ → Option TransferType
type_of text =
    if is_empty text || bytes_eq text (codes "0") then Some types.Recommended
    else (if bytes_eq text (codes "1") then Some types.Timed
    else (if bytes_eq text (codes "2") then Some types.MinimumTime
    else (if bytes_eq text (codes "3") then Some types.NotPossible
    else None)))

-- types 4 and 5 are between trips
abbrev pub is_in_seat : List ℕ → Bool
is_in_seat text = bytes_eq text (codes "4") || bytes_eq text (codes "5")

abbrev pub is_transfer_type : List ℕ → Bool
is_transfer_type text = is_some (type_of text) || is_in_seat text

-- a row names a route or a trip
abbrev pub is_of_trips : Table → ℕ → Bool
is_of_trips table row =
    not (is_empty (text_at table (codes "from_route_id") row) && is_empty (text_at table (codes "to_route_id") row)
    && is_empty (text_at table (codes "from_trip_id") row) && is_empty (text_at table (codes "to_trip_id") row))

-- a row is about only two places; the others are skipped
abbrev pub is_between_places : Table → ℕ → Bool
is_between_places table row = is_some (type_of (type_text table row)) && not (is_of_trips table row)

-- the stop or the station of an id
abbrev pub station_place : List (List ℕ) → List ℕ → Option Place
station_place stations id = option_map (λ n. places.Station n) (number_in stations id)

abbrev pub place_or : Option ℕ → Option Place → Option Place
place_or None station = station
place_or (Some n) station = Some (places.Stop n)

abbrev pub place_of : IdLists → List ℕ → Option Place
place_of ids id = place_or (number_in ids.stops id) (station_place ids.stations id)

-- a row leads from a stop or a station to another
abbrev pub joins_places : IdLists → Table → ℕ → Bool
joins_places ids table row = is_some (place_of ids (from_id table row)) && is_some (place_of ids (to_id table row))

-- the seconds of a min_transfer_time: a whole number of at most 86,400
abbrev pub at_most_a_day : Option ℕ → Option ℕ
at_most_a_day None = None
at_most_a_day (Some seconds) = if nat_le seconds 86_400 then Some seconds else None

abbrev pub short_time : List ℕ → Option ℕ
short_time text = at_most_a_day (whole_of text)

abbrev pub is_short_or_empty : List ℕ → Bool
is_short_or_empty text = is_empty text || is_some (short_time text)

-- the tests of what a row names, and of its time
abbrev pub found_tests : ℕ → Bool → Bool → Bool → List Test
found_tests row knows_from knows_to time_stands =
    test kinds.UnknownReference files.Transfers row knows_from
    ∷ test kinds.UnknownReference files.Transfers row knows_to
    ∷ test kinds.BadField files.Transfers row time_stands
    ∷ []

abbrev pub place_tests : IdLists → Table → ℕ → List Test
place_tests ids table row =
    found_tests row (has_text ids.all (from_id table row)) (has_text ids.all (to_id table row))
    (not (joins_places ids table row) || is_short_or_empty (time_text table row))

-- the tests of a row
abbrev pub transfer_tests : IdLists → Table → ℕ → List Test
transfer_tests ids table row =
    test kinds.BadField files.Transfers row (is_transfer_type (type_text table row))
    ∷ (if is_between_places table row then place_tests ids table row else [])

-- what is kept of a row
abbrev pub transfer_between : Option Place → Option Place → Option TransferType → Option ℕ → Option Transfer
transfer_between from to kind time =
    option_and_then (λ f. option_and_then (λ t.
    option_map (λ k. record { from = f; to = t; transfer_type = k; min_transfer_time = time }) kind) to) from

abbrev pub kept_transfer : IdLists → Table → ℕ → Option Transfer
kept_transfer ids table row =
    if is_between_places table row
    then transfer_between (place_of ids (from_id table row)) (place_of ids (to_id table row)) (type_of (type_text table row))
    (short_time (time_text table row))
    else None

abbrev pub transfer_values : IdLists → Table → List Transfer
transfer_values ids table = filter_map (kept_transfer ids table) (rows_of table)

-- how many rows are skipped
abbrev pub skipped_transfers : IdLists → Table → ℕ
skipped_transfers ids table = length (filter (λ row. is_none (kept_transfer ids table row)) (rows_of table))

abbrev pub transfers_tests : IdLists → Table → List Test
transfers_tests ids table =
    table_tests files.Transfers (codes "from_stop_id" ∷ codes "to_stop_id" ∷ []) (transfer_tests ids) (λ _. true) table

-- where the columns of a table are
pub record AreTransferColumns (table : Table) (columns : TransferColumns) : Type 0 where
  pub from : columns.from ≡ column_of table (codes "from_stop_id")
  pub to : columns.to ≡ column_of table (codes "to_stop_id")
  pub transfer_type : columns.transfer_type ≡ column_of table (codes "transfer_type")
  pub min_transfer_time : columns.min_transfer_time ≡ column_of table (codes "min_transfer_time")
  pub from_route : columns.from_route ≡ column_of table (codes "from_route_id")
  pub to_route : columns.to_route ≡ column_of table (codes "to_route_id")
  pub from_trip : columns.from_trip ≡ column_of table (codes "from_trip_id")
  pub to_trip : columns.to_trip ≡ column_of table (codes "to_trip_id")

-- a place that is there
abbrev pub IsPlace : ℕ → ℕ → Place → Type 0
IsPlace stops stations (places.Stop n) = n < stops
IsPlace stops stations (places.Station n) = n < stations

pub record IsTransfer (stops stations : ℕ) (transfer : Transfer) : Type 0 where
  pub from : IsPlace stops stations transfer.from
  pub to : IsPlace stops stations transfer.to
  pub short : IfSome transfer.min_transfer_time (λ s. s ≤ 86_400)
