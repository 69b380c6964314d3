-- The faults of each file of a feed, as a table: which rows are at fault, and by which test.
use Rattle.std.specs.Prelude.{Bool, true, not, ℕ, ◌-◌, List, [], ◌∷◌, ◌++◌, length, codes, map, filter, nat_le, Option, None, Some, is_some, is_none, if◌then◌else◌, ◌&&◌}
use Rattle.std.specs.List.{filter_map, flat_map, list_all, list_any}
use Rattle.gtfs_text.specs.Sheets.{Table, column_of, row_count}
use Rattle.gtfs_rows.specs.declared.fault.FaultKind.TheVariants as kinds
use Rattle.gtfs_rows.specs.declared.fault.FeedFault.{FeedFault}
use Rattle.gtfs_rows.specs.declared.fault.FeedFile.{FeedFile}
use Rattle.gtfs_rows.specs.declared.fault.FeedFile.TheVariants as files
use Rattle.gtfs_rows.specs.Faults.{Test, test, first_fault}
use Rattle.gtfs_rows.specs.Rows.{distinct, rows_of, rows_to}
use Rattle.gtfs_stops.specs.declared.stops.RowKind.TheVariants as row_kinds
use Rattle.gtfs_stops.specs.Stops.{IdLists, ids_of_kind, stop_id, stop_tests}
use Rattle.gtfs_stops.specs.Transfers.{transfer_tests}
use Rattle.gtfs_services.specs.Trips.{trip_tests, trip_ids}
use Rattle.gtfs_services.specs.Calendar.{calendar_row_tests, column_names as calendar_columns}
use Rattle.gtfs_services.specs.CalendarDates.{field_tests as date_field_tests, is_same, service_date, column_names as date_columns}
use Rattle.gtfs_calls.specs.StopTimes.{call_lists, call_tests, is_same_key as is_same_call, is_skipped, key_at as call_key_at, key_tests, keyed_tests}
use Rattle.gtfs_calls.specs.TripTests.{trip_tests as times_tests}
use Rattle.gtfs_frequencies.specs.Frequencies.{column_names as frequency_columns, field_tests as frequency_field_tests, is_same_key as is_same_start, key_at as start_key_at}

-- a fault by itself, if there is one, or else others
abbrev pub or_else : Option FeedFault → List FeedFault → List FeedFault
or_else None others = others
or_else (Some fault) others = fault ∷ []

-- the faults of rows: of each row that fails a test that of the first that it fails
abbrev pub row_faults : (ℕ → List Test) → List ℕ → List FeedFault
row_faults tests rows = filter_map (λ row. first_fault (tests row)) rows

-- each of these columns is there
abbrev pub columns_test : FeedFile → List (List ℕ) → Table → Test
columns_test file columns table = test kinds.MissingColumn file 0 (list_all (λ name. is_some (column_of table name)) columns)

-- there are not too many rows, and the table is small by another count too
abbrev pub fits : Bool → Table → Bool
fits is_small table = nat_le (row_count table) 999_999_999 && is_small

abbrev pub size_test : FeedFile → Bool → Table → Test
size_test file is_small table = test kinds.TooMany file 0 (fits is_small table)

-- The faults of a table, by stages: that of its columns by itself; else those of its rows, and then that of its size, or the faults that
-- come after that.
abbrev pub table_faults : FeedFile → List (List ℕ) → Bool → List FeedFault → List FeedFault → Table → List FeedFault
table_faults file columns is_small rows last table =
    or_else (first_fault (columns_test file columns table ∷ [])) (rows ++ or_else (first_fault (size_test file is_small table ∷ [])) last)

-- it can be read as a table: its columns are there, and it isn't too large
abbrev pub is_readable : FeedFile → List (List ℕ) → Bool → Table → Bool
is_readable file columns is_small table =
    list_all (λ name. is_some (column_of table name)) columns && fits is_small table

-- the rows before this one whose keys count: the tests before that of the key hold
abbrev pub keyed_before : (ℕ → List Test) → Table → ℕ → List ℕ
keyed_before tests table row = filter (λ before. is_none (first_fault (tests before))) (rows_to table (row - 1))

-- ---- stops.txt and transfers.txt

-- the ids of stops.txt, each once, whatever else is wrong with their rows
abbrev pub distinct_ids : Table → IdLists
distinct_ids table = record {
  all = distinct (map (stop_id table) (rows_of table));
  stops = distinct (ids_of_kind row_kinds.Stop table);
  stations = distinct (ids_of_kind row_kinds.Station table);
}

abbrev pub has_few_ids : Table → Bool
has_few_ids table = nat_le (length (distinct_ids table).stops) 1_000_000

abbrev pub stops_faults : Table → List FeedFault
stops_faults table =
    table_faults files.Stops (codes "stop_id" ∷ []) (has_few_ids table) (row_faults (stop_tests table) (rows_of table)) [] table

-- the ids that other files may name, if the file can be read as a table
abbrev pub ids_known : Table → Option IdLists
ids_known table = if is_readable files.Stops (codes "stop_id" ∷ []) (has_few_ids table) table then Some (distinct_ids table) else None

-- rows are tested only if the ids that they name are known
abbrev pub transfer_rows : Option IdLists → Table → List FeedFault
transfer_rows None table = []
transfer_rows (Some ids) table = row_faults (transfer_tests ids table) (rows_of table)

abbrev pub transfers_faults : Option IdLists → Table → List FeedFault
transfers_faults ids table =
    table_faults files.Transfers (codes "from_stop_id" ∷ codes "to_stop_id" ∷ []) true (transfer_rows ids table) [] table

-- ---- trips.txt and the days of services

abbrev pub trips_faults : Table → List FeedFault
trips_faults table =
    table_faults files.Trips (codes "trip_id" ∷ codes "service_id" ∷ []) true (row_faults (trip_tests table) (rows_of table)) [] table

abbrev pub trips_known : Table → Option (List (List ℕ))
trips_known table =
    if is_readable files.Trips (codes "trip_id" ∷ codes "service_id" ∷ []) true table then Some (distinct (trip_ids table)) else None

abbrev pub calendar_faults : Table → List FeedFault
calendar_faults table =
    table_faults files.Calendar calendar_columns true (row_faults (calendar_row_tests table) (rows_of table)) [] table

-- no row before this one whose key counts names its service and its day
abbrev pub is_first_date : Table → ℕ → Bool
is_first_date table row =
    not (list_any (is_same (service_date table row)) (map (service_date table) (keyed_before (date_field_tests table) table row)))

abbrev pub date_tests : Table → ℕ → List Test
date_tests table row =
    date_field_tests table row ++ test kinds.DuplicateKey files.CalendarDates row (is_first_date table row) ∷ []

abbrev pub calendar_dates_faults : Table → List FeedFault
calendar_dates_faults table =
    table_faults files.CalendarDates date_columns true (row_faults (date_tests table) (rows_of table)) [] table

-- ---- stop_times.txt

-- no row before this one whose key counts has its trip and its stop_sequence
abbrev pub is_first_call : List (List ℕ) → List (List ℕ) → Table → ℕ → Bool
is_first_call stops trips table row =
    not (list_any (is_same_call (call_key_at trips table row))
    (map (call_key_at trips table) (filter (λ before. not (is_skipped table before)) (keyed_before (key_tests stops trips table) table row))))

abbrev pub call_row_tests : List (List ℕ) → List (List ℕ) → Table → ℕ → List Test
call_row_tests stops trips table row =
    if is_skipped table row then [] else keyed_tests (is_first_call stops trips table row) stops trips table row

-- the faults of the times of trips, which are tested only if each row passes its tests
abbrev pub trip_faults : List (List ℕ) → List (List ℕ) → Table → List FeedFault
trip_faults stops trips table =
    if is_none (first_fault (flat_map (call_tests stops trips table) (rows_of table)))
    then filter_map (λ calls. first_fault (times_tests calls)) (call_lists stops trips table)
    else []

abbrev pub call_columns : List (List ℕ)
call_columns = codes "trip_id" ∷ codes "stop_id" ∷ codes "stop_sequence" ∷ []

-- rows are tested only if the ids of stops and of trips are known
abbrev pub stop_times_faults : Option IdLists → Option (List (List ℕ)) → Table → List FeedFault
stop_times_faults None trips table = table_faults files.StopTimes call_columns true [] [] table
stop_times_faults (Some ids) None table = table_faults files.StopTimes call_columns true [] [] table
stop_times_faults (Some ids) (Some trips) table =
    table_faults files.StopTimes call_columns true (row_faults (call_row_tests ids.stops trips table) (rows_of table))
    (trip_faults ids.stops trips table) table

-- ---- frequencies.txt

-- no row before this one whose key counts has its trip and its start_time
abbrev pub is_first_start : List (List ℕ) → Table → ℕ → Bool
is_first_start trips table row =
    not (list_any (is_same_start (start_key_at trips table row))
    (map (start_key_at trips table) (keyed_before (frequency_field_tests trips table) table row)))

abbrev pub start_tests : List (List ℕ) → Table → ℕ → List Test
start_tests trips table row =
    frequency_field_tests trips table row ++ test kinds.DuplicateKey files.Frequencies row (is_first_start trips table row) ∷ []

-- rows are tested only if the ids of trips are known
abbrev pub start_rows : Option (List (List ℕ)) → Table → List FeedFault
start_rows None table = []
start_rows (Some trips) table = row_faults (start_tests trips table) (rows_of table)

abbrev pub frequencies_faults : Option (List (List ℕ)) → Table → List FeedFault
frequencies_faults trips table = table_faults files.Frequencies frequency_columns true (start_rows trips table) [] table
