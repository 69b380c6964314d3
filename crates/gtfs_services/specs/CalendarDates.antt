-- calendar_dates.txt: its values and its tests.
-- GTFS Schedule, calendar_dates.txt.
use Rattle.std.specs.Prelude.{◌≡◌, true, not, ℕ, ◌-◌, Bool, List, [], ◌∷◌, ◌++◌, codes, map, ◌&&◌, Option, None, Some, is_some, unwrap_or, if◌then◌else◌}
use Rattle.std.specs.List.{list_any}
use Rattle.std.specs.Ordering.{int_eq}
use Rattle.std.specs.Str.{bytes_eq}
use Rattle.jiff_core.specs.Date.{epoch_day}
use Rattle.jiff_core.specs.declared.civil.date.Date.{Date}
use Rattle.gtfs_text.specs.Sheets.{Table, column_of}
use Rattle.gtfs_rows.specs.declared.fault.FaultKind.TheVariants as kinds
use Rattle.gtfs_rows.specs.declared.fault.FeedFile.TheVariants as files
use Rattle.gtfs_rows.specs.declared.values.CalendarDate.{CalendarDate}
use Rattle.gtfs_rows.specs.declared.values.DateChange.{DateChange}
use Rattle.gtfs_rows.specs.declared.values.DateChange.TheVariants.{Added, Removed}
use Rattle.gtfs_rows.specs.Faults.{Test, test}
use Rattle.gtfs_rows.specs.Rows.{text_at, is_empty, rows_of, rows_to, table_tests}
use Rattle.gtfs_services.specs.declared.calendar_dates.DateColumns.{DateColumns}
use Rattle.gtfs_services.specs.Dates.{is_date, date_at}

abbrev pub service_id : Table → ℕ → List ℕ
service_id table row = text_at table (codes "service_id") row

abbrev pub date : Table → ℕ → List ℕ
date table row = text_at table (codes "date") row

abbrev pub exception_type : Table → ℕ → List ℕ
exception_type table row = text_at table (codes "exception_type") row

-- what an exception_type says of its date: 1 if service has been added, 2 if it has been removed
abbrev pub change_of : List ℕ → Option DateChange
change_of text = if bytes_eq text (codes "1") then Some Added else (if bytes_eq text (codes "2") then Some Removed else None)

-- the service and the day that a row names
abbrev pub service_date : Table → ℕ → List ℕ × Date
service_date table row = (service_id table row, date_at (date table row))

-- they are of one service, on one day
abbrev pub is_same : List ℕ × Date → List ℕ × Date → Bool
is_same a b = bytes_eq a.0 b.0 && int_eq (epoch_day a.1) (epoch_day b.1)

-- no row before this one names its service and its day
abbrev pub is_new_date : Table → ℕ → Bool
is_new_date table row = not (list_any (is_same (service_date table row)) (map (service_date table) (rows_to table (row - 1))))

-- the tests of a row's fields
abbrev pub field_tests : Table → ℕ → List Test
field_tests table row =
    test kinds.BadField files.CalendarDates row (not (is_empty (service_id table row)))
    ∷ test kinds.BadField files.CalendarDates row (is_date (date table row))
    ∷ test kinds.BadField files.CalendarDates row (is_some (change_of (exception_type table row)))
    ∷ []

-- the tests of a row
abbrev pub calendar_date_tests : Table → ℕ → List Test
calendar_date_tests table row = field_tests table row ++ test kinds.DuplicateKey files.CalendarDates row (is_new_date table row) ∷ []

-- the value of a row: a service, a date, and what becomes of the service on that date
abbrev pub calendar_date_value : Table → ℕ → CalendarDate
calendar_date_value table row =
    record {
      service = service_id table row;
      date = date_at (date table row);
      change = unwrap_or (change_of (exception_type table row)) Removed;
    }

-- the values of all rows
abbrev pub calendar_date_values : Table → List CalendarDate
calendar_date_values table = map (calendar_date_value table) (rows_of table)

abbrev pub column_names : List (List ℕ)
column_names = codes "service_id" ∷ codes "date" ∷ codes "exception_type" ∷ []

abbrev pub calendar_dates_tests : Table → List Test
calendar_dates_tests table = table_tests files.CalendarDates column_names calendar_date_tests (λ _. true) table

-- where the columns of a table are
pub record AreDateColumns (table : Table) (columns : DateColumns) : Type 0 where
  pub service : columns.service ≡ column_of table (codes "service_id")
  pub date : columns.date ≡ column_of table (codes "date")
  pub exception_type : columns.exception_type ≡ column_of table (codes "exception_type")
