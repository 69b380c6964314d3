-- Rows of calendar.txt.
use Rattle.std.proofs.Common.{◌≡◌, ◌∙◌, sym, ap, refl, ℕ, ◌<◌, Bool, true, false, not, List, [], ◌∷◌, ◌++◌, length, map, codes, ◌&&◌, get_or, Option, None, Some, cond}
use Rattle.std.specs.Prelude.{is_some}
use Rattle.std.specs.List.{list_all}
use Rattle.std.proofs.lemmas.List.{map_push}
use Rattle.std.proofs.lemmas.List.Folds.{list_all-append, list_all-map, list_all_at}
use Rattle.jiff_core.specs.declared.civil.date.Date.{Date}
use Rattle.gtfs_text.specs.Sheets.{Table, column_of}
use Rattle.gtfs_text.specs.Values.{date_of, ymd}
use Rattle.gtfs_rows.specs.declared.values.CalendarRow.{CalendarRow}
use Rattle.gtfs_rows.specs.declared.fault.FaultKind.TheVariants as kinds
use Rattle.gtfs_rows.specs.declared.fault.FeedFile.TheVariants as files
use Rattle.gtfs_rows.specs.Faults.{first_fault, test}
use Rattle.gtfs_rows.proofs.RowFacts.{second_holds}
use Rattle.gtfs_rows.specs.Rows.{is_empty, has_new_key}
use Rattle.gtfs_services.specs.declared.calendar.CalendarColumns.{CalendarColumns}
use Rattle.gtfs_services.specs.Dates.{is_date}
use Rattle.gtfs_services.specs.Calendar.{flag_of, is_flag, is_marked, weekdays, weekdays_in, weekday_texts, column_names, AreCalendarColumns, service_id, start_date, end_date, calendar_row_tests, calendar_row_value}
use Rattle.gtfs_services.proofs.DateFacts.{date_is}

-- one more text, which says whether the service runs
pub weekdays_more : (texts : List (List ℕ)) (text : List ℕ) (marks : List Bool) (mark : Bool) → weekdays_in texts ≡ Some marks → flag_of text ≡ Some mark → weekdays_in (texts ++ text ∷ []) ≡ Some (marks ++ mark ∷ [])
weekdays_more texts text marks mark h e =
    elim (list_all is_flag texts) as (λ t. list_all is_flag texts ≡ t → cond t (Some (map is_marked texts)) None ≡ Some marks → weekdays_in (texts ++ text ∷ []) ≡ Some (marks ++ mark ∷ [])) [
      | true ↦ λ all s. let same : map is_marked texts ≡ marks = cc s in rw (list_all-append is_flag texts (text ∷ []), all, map_push is_marked texts text, e, same) refl
      | false ↦ λ no s. absurd (cc s)
    ] refl h

-- a text that doesn't say it
pub no_weekdays : {X : Type 0} (text : X → List ℕ) (xs : List X) (i : ℕ) (d : X) → i < length xs → flag_of (text (get_or xs i d)) ≡ None → weekdays_in (map text xs) ≡ None
no_weekdays text xs i d lt h =
    let fails : list_all is_flag (map text xs) ≡ false = list_all-map is_flag text xs ∙ list_all_at (λ x. is_flag (text x)) xs i d lt (ap is_some h) in
    rw fails refl

-- marks that the texts say: each is a flag
flags : (texts : List (List ℕ)) (marks : List Bool) → Some marks ≡ weekdays_in texts → (list_all is_flag texts ≡ true) × (marks ≡ map is_marked texts)
flags texts marks e = elim (list_all is_flag texts) as (λ t. Some marks ≡ cond t (Some (map is_marked texts)) None → (t ≡ true) × (marks ≡ map is_marked texts)) [ true ↦ λ h. (refl, cc h) | false ↦ λ h. absurd (cc h) ] e

-- a value is what its fields are
row_value : {service : List ℕ} {marks : List Bool} {start end : Date} (value : CalendarRow) → service ≡ value.service → marks ≡ value.weekdays → start ≡ value.start → end ≡ value.end → record { service = service; weekdays = marks; start = start; end = end } ≡ value
row_value value p q r s = λ k. record { service = p k; weekdays = q k; start = r k; end = s k }

-- a row that passes its tests, and its value
pub row_passes : (table : Table) (row : ℕ) (service : List ℕ) (marks : List Bool) (start end : Date) → is_empty (service_id table row) ≡ false → has_new_key table (service_id table) row ≡ true → service ≡ service_id table row
    → Some marks ≡ weekdays_in (weekday_texts table row) → Some (ymd start) ≡ date_of (start_date table row) → Some (ymd end) ≡ date_of (end_date table row)
    → (first_fault (calendar_row_tests table row) ≡ None) × (◌≡◌ {A = CalendarRow} (record { service = service; weekdays = marks; start = start; end = end }) (calendar_row_value table row))
row_passes table row service marks start end there new named days starts ends =
    let f = flags (weekday_texts table row) marks days in
    let from : is_date (start_date table row) ≡ true = ap is_some (sym starts) in
    let to : is_date (end_date table row) ≡ true = ap is_some (sym ends) in
    (rw (there, new, f.0, from, to) refl, row_value (calendar_row_value table row) named f.1 (date_is start (start_date table row) starts) (date_is end (end_date table row) ends))

-- a row that passes its tests has a new service
pub is_new : (table : Table) (row : ℕ) → first_fault (calendar_row_tests table row) ≡ None → has_new_key table (service_id table) row ≡ true
is_new table row passes = second_holds (test kinds.BadField files.Calendar row (not (is_empty (service_id table row)))) (test kinds.DuplicateKey files.Calendar row (has_new_key table (service_id table) row))
    (test kinds.BadField files.Calendar row (list_all is_flag (weekday_texts table row)) ∷ test kinds.BadField files.Calendar row (is_date (start_date table row)) ∷ test kinds.BadField files.Calendar row (is_date (end_date table row)) ∷ []) passes

-- each column is there
pub are_there : (table : Table) (columns : CalendarColumns) → AreCalendarColumns table columns → list_all is_some (columns.service ∷ columns.start ∷ columns.end ∷ []) ≡ true → list_all is_some columns.weekdays ≡ true → list_all (λ name. is_some (column_of table name)) column_names ≡ true
are_there table columns are others days =
    let there : list_all (λ name. is_some (column_of table name)) weekdays ≡ true = ap (list_all is_some) (sym are.weekdays) ∙ days in
    let rest = ap (λ (c : Option ℕ). list_all is_some (column_of table (codes "service_id") ∷ column_of table (codes "start_date") ∷ c ∷ [])) (sym are.end)
    ∙ ap (λ (c : Option ℕ). list_all is_some (column_of table (codes "service_id") ∷ c ∷ columns.end ∷ [])) (sym are.start)
    ∙ ap (λ (c : Option ℕ). list_all is_some (c ∷ columns.start ∷ columns.end ∷ [])) (sym are.service) ∙ others in
    ap (λ (t : Bool). is_some (column_of table (codes "service_id")) && t) (list_all-append (λ name. is_some (column_of table name)) weekdays (codes "start_date" ∷ codes "end_date" ∷ []) ∙ ap (λ (t : Bool). t && list_all (λ name. is_some (column_of table name)) (codes "start_date" ∷ codes "end_date" ∷ [])) there) ∙ rest
