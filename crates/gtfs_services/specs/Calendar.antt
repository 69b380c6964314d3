-- calendar.txt: its values and its tests.
-- GTFS Schedule, calendar.txt.
use Rattle.std.specs.Prelude.{◌≡◌, true, false, not, is_some, unwrap_or, ℕ, Bool, List, [], ◌∷◌, codes, map, ◌++◌, Option, None, Some, if◌then◌else◌}
use Rattle.std.specs.List.{list_all}
use Rattle.std.specs.Str.{bytes_eq}
use Rattle.gtfs_text.specs.Sheets.{Table, column_of}
use Rattle.gtfs_rows.specs.declared.fault.FaultKind.TheVariants as kinds
use Rattle.gtfs_rows.specs.declared.fault.FeedFile.TheVariants as files
use Rattle.gtfs_rows.specs.declared.values.CalendarRow.{CalendarRow}
use Rattle.gtfs_rows.specs.Faults.{Test, test}
use Rattle.gtfs_rows.specs.Rows.{text_at, is_empty, has_new_key, rows_of, table_tests}
use Rattle.gtfs_services.specs.declared.calendar.CalendarColumns.{CalendarColumns}
use Rattle.gtfs_services.specs.Dates.{is_date, date_at}

abbrev pub service_id : Table → ℕ → List ℕ
service_id table row = text_at table (codes "service_id") row

abbrev pub start_date : Table → ℕ → List ℕ
start_date table row = text_at table (codes "start_date") row

abbrev pub end_date : Table → ℕ → List ℕ
end_date table row = text_at table (codes "end_date") row

-- the columns of the weekdays, from Monday on
abbrev pub weekdays : List (List ℕ)
weekdays = codes "monday" ∷ codes "tuesday" ∷ codes "wednesday" ∷ codes "thursday" ∷ codes "friday" ∷ codes "saturday" ∷ codes "sunday" ∷ []

-- what a row has under them
abbrev pub weekday_texts : Table → ℕ → List (List ℕ)
weekday_texts table row = map (λ weekday. text_at table weekday row) weekdays

-- whether the service runs on the weekday: 1 if it does, 0 if it doesn't
abbrev pub flag_of : List ℕ → Option Bool
flag_of text = if bytes_eq text (codes "0") then Some false else (if bytes_eq text (codes "1") then Some true else None)

abbrev pub is_flag : List ℕ → Bool
is_flag text = is_some (flag_of text)

abbrev pub is_marked : List ℕ → Bool
is_marked text = unwrap_or (flag_of text) false

-- on which weekdays it runs, if each text says it
abbrev pub weekdays_in : List (List ℕ) → Option (List Bool)
weekdays_in texts = if list_all is_flag texts then Some (map is_marked texts) else None

abbrev pub calendar_row_tests : Table → ℕ → List Test
calendar_row_tests table row =
    test kinds.BadField files.Calendar row (not (is_empty (service_id table row)))
    ∷ test kinds.DuplicateKey files.Calendar row (has_new_key table (service_id table) row)
    ∷ test kinds.BadField files.Calendar row (list_all is_flag (weekday_texts table row))
    ∷ test kinds.BadField files.Calendar row (is_date (start_date table row))
    ∷ test kinds.BadField files.Calendar row (is_date (end_date table row))
    ∷ []

-- the value of a row: a service, its weekdays from Monday on, and the ends of its range of dates
abbrev pub calendar_row_value : Table → ℕ → CalendarRow
calendar_row_value table row = record {
  service = service_id table row;
  weekdays = map is_marked (weekday_texts table row);
  start = date_at (start_date table row);
  end = date_at (end_date table row);
}

-- the values of all rows
abbrev pub calendar_values : Table → List CalendarRow
calendar_values table = map (calendar_row_value table) (rows_of table)

abbrev pub column_names : List (List ℕ)
column_names = codes "service_id" ∷ (weekdays ++ codes "start_date" ∷ codes "end_date" ∷ [])

abbrev pub calendar_tests : Table → List Test
calendar_tests table = table_tests files.Calendar column_names calendar_row_tests (λ _. true) table

-- where the columns of a table are
pub record AreCalendarColumns (table : Table) (columns : CalendarColumns) : Type 0 where
  pub service : columns.service ≡ column_of table (codes "service_id")
  pub weekdays : columns.weekdays ≡ map (column_of table) weekdays
  pub start : columns.start ≡ column_of table (codes "start_date")
  pub end : columns.end ≡ column_of table (codes "end_date")
