-- frequencies.txt: its values and its tests.
-- GTFS Schedule, frequencies.txt.
use Rattle.std.specs.Prelude.{◌≡◌, ◌<◌, ◌≤◌, true, not, ℕ, ◌-◌, Bool, List, [], ◌∷◌, ◌++◌, codes, map, ◌==◌, ◌&&◌, ◌||◌, nat_le}
use Rattle.std.specs.Prelude.{Option, None, Some, is_some, option_and_then, unwrap_or, if◌then◌else◌}
use Rattle.std.specs.List.{list_any}
use Rattle.std.specs.Str.{bytes_eq}
use Rattle.gtfs_text.specs.Sheets.{Table, column_of}
use Rattle.gtfs_text.specs.Values.{whole_of, time_of}
use Rattle.gtfs_rows.specs.declared.fault.FaultKind.TheVariants as kinds
use Rattle.gtfs_rows.specs.declared.fault.FeedFile.TheVariants as files
use Rattle.gtfs_rows.specs.declared.values.Frequency.{Frequency}
use Rattle.gtfs_rows.specs.Faults.{Test, test}
use Rattle.gtfs_rows.specs.Rows.{text_at, is_empty, number_in, rows_of, rows_to, table_tests}
use Rattle.gtfs_frequencies.specs.declared.frequencies.FrequencyColumns.{FrequencyColumns}

abbrev pub trip_id : Table → ℕ → List ℕ
trip_id table row = text_at table (codes "trip_id") row

abbrev pub start_time : Table → ℕ → List ℕ
start_time table row = text_at table (codes "start_time") row

abbrev pub end_time : Table → ℕ → List ℕ
end_time table row = text_at table (codes "end_time") row

abbrev pub headway_secs : Table → ℕ → List ℕ
headway_secs table row = text_at table (codes "headway_secs") row

abbrev pub exact_times : Table → ℕ → List ℕ
exact_times table row = text_at table (codes "exact_times") row

-- a headway is a whole number from 1 on
abbrev pub headway_of : List ℕ → Option ℕ
headway_of text = option_and_then (λ seconds. if nat_le 1 seconds then Some seconds else None) (whole_of text)

-- an exact_times is 0, 1 or empty, which means 0
abbrev pub is_exactness : List ℕ → Bool
is_exactness text = is_empty text || (bytes_eq text (codes "0") || bytes_eq text (codes "1"))

-- a trip departs exactly at its times if that is 1
abbrev pub is_exact : List ℕ → Bool
is_exact text = bytes_eq text (codes "1")

-- the key of a row: the number of its trip, and its start_time. If the tests of the row's fields hold, both are there
abbrev pub key_at : List (List ℕ) → Table → ℕ → ℕ × ℕ
key_at trips table row = (unwrap_or (number_in trips (trip_id table row)) 0, unwrap_or (time_of (start_time table row)) 0)

-- they are one key
abbrev pub is_same_key : ℕ × ℕ → ℕ × ℕ → Bool
is_same_key a b = (a.0 == b.0) && (a.1 == b.1)

-- no row before this one has its trip and its start_time; `8:00:00` and `08:00:00` are one
abbrev pub has_new_start : List (List ℕ) → Table → ℕ → Bool
has_new_start trips table row = not (list_any (is_same_key (key_at trips table row)) (map (key_at trips table) (rows_to table (row - 1))))

-- the tests of a row's fields
abbrev pub field_tests : List (List ℕ) → Table → ℕ → List Test
field_tests trips table row =
    test kinds.UnknownReference files.Frequencies row (is_some (number_in trips (trip_id table row)))
    ∷ test kinds.BadField files.Frequencies row (is_some (time_of (start_time table row)))
    ∷ test kinds.BadField files.Frequencies row (is_some (time_of (end_time table row)))
    ∷ test kinds.BadField files.Frequencies row (is_some (headway_of (headway_secs table row)))
    ∷ test kinds.BadField files.Frequencies row (is_exactness (exact_times table row))
    ∷ []

-- the tests of a row
abbrev pub frequency_tests : List (List ℕ) → Table → ℕ → List Test
frequency_tests trips table row =
    field_tests trips table row ++ test kinds.DuplicateKey files.Frequencies row (has_new_start trips table row) ∷ []

-- the value of a row: a trip, when it departs first, before when it departs last, how many seconds lie between, and whether exactly
abbrev pub frequency_value : List (List ℕ) → Table → ℕ → Frequency
frequency_value trips table row =
    record {
      trip = unwrap_or (number_in trips (trip_id table row)) 0;
      start = unwrap_or (time_of (start_time table row)) 0;
      end = unwrap_or (time_of (end_time table row)) 0;
      headway = unwrap_or (headway_of (headway_secs table row)) 0;
      exact = is_exact (exact_times table row);
    }

-- the values of all rows
abbrev pub frequency_values : List (List ℕ) → Table → List Frequency
frequency_values trips table = map (frequency_value trips table) (rows_of table)

abbrev pub column_names : List (List ℕ)
column_names = codes "trip_id" ∷ codes "start_time" ∷ codes "end_time" ∷ codes "headway_secs" ∷ []

abbrev pub frequencies_tests : List (List ℕ) → Table → List Test
frequencies_tests trips table = table_tests files.Frequencies column_names (frequency_tests trips) (λ _. true) table

-- a row of a trip that is there, with times of at most 167:59:59 and a headway
pub record IsFrequency (trips : ℕ) (row : Frequency) : Type 0 where
  pub trip : row.trip < trips
  pub start : row.start ≤ 604_799
  pub end : row.end ≤ 604_799
  pub headway : 1 ≤ row.headway

-- where the columns of a table are
pub record AreFrequencyColumns (table : Table) (columns : FrequencyColumns) : Type 0 where
  pub trip : columns.trip ≡ column_of table (codes "trip_id")
  pub start : columns.start ≡ column_of table (codes "start_time")
  pub end : columns.end ≡ column_of table (codes "end_time")
  pub headway : columns.headway ≡ column_of table (codes "headway_secs")
  pub exact : columns.exact ≡ column_of table (codes "exact_times")
