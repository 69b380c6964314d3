use Rattle.std.proofs.Common.{◌≡◌, ◌∙◌, sym, ap, refl, ℕ, Bool, true, false, ◌&&◌, List, [], ◌∷◌, codes}
use Rattle.std.specs.Prelude.{is_some}
use Rattle.std.specs.List.{list_all}
use Rattle.std.proofs.lemmas.List.Folds.{list_all-append}
use Rattle.gtfs_text.specs.Sheets.{Table, column_of}
use Rattle.gtfs_rows.specs.declared.fault.FeedFile.TheVariants as files
use Rattle.gtfs_rows.specs.Rows.{rows_of}
use Rattle.gtfs_services.specs.Calendar.{AreCalendarColumns, calendar_row_tests, column_names, weekdays}
use Rattle.gtfs_services.specs.declared.calendar.CalendarColumns.{CalendarColumns}
use Rattle.file_faults.specs.Tables.{row_faults}
use Rattle.file_faults.proofs.ListFacts.{on-ok-then}
use Rattle.file_faults.proofs.TableFacts.{lacking-added, plain-added}
use Rattle.file_faults.proofs.calendars.list_calendar.Goals as goal
use Rattle.file_faults.proofs.calendars.list_calendar.Goals.{then-not-are_there-via-then-not-are_there, then-not-are_there-via-else-not-are_there+then-not-are_there-2}

and-true : (a : Bool) → (a && true) ≡ a
and-true true = refl
and-true false = refl

and-false : (a : Bool) → (a && false) ≡ false
and-false true = refl
and-false false = refl

order : (s w r : Bool) → ((s && r) && w) ≡ (s && (w && r))
order false w r = refl
order true true r = and-true r
order true false r = and-false r

-- the columns, in the order of their names
all-there : (table : Table) (columns : CalendarColumns) → AreCalendarColumns table columns
    → (list_all is_some (columns.service ∷ columns.start ∷ columns.end ∷ []) && list_all is_some columns.weekdays) ≡ list_all (λ name. is_some (column_of table name)) column_names
all-there table columns are =
    let has : List ℕ → Bool = λ name. is_some (column_of table name) in
    rw (are.service, are.start, are.end, are.weekdays)
    (order (has (codes "service_id")) (list_all has weekdays) (list_all has (codes "start_date" ∷ codes "end_date" ∷ []))
    ∙ ap (λ (t : Bool). has (codes "service_id") && t) (sym (list_all-append has weekdays (codes "start_date" ∷ codes "end_date" ∷ []))))

pub returns-then-not-are_there : goal.returns-then-not-are_there
returns-then-not-are_there c =
    let table = c.args.sheet.now in
    let columns = c.calendar_columns-columns.result in
    let all = all-there table columns c.calendar_columns-columns.ensures in
    let lacks : list_all (λ name. is_some (column_of table name)) column_names ≡ false =
    elim c.then-not-are_there.branch [
      | then-not-are_there-via-then-not-are_there w ↦
          (let e : list_all is_some (columns.service ∷ columns.start ∷ columns.end ∷ []) ≡ false = sym c.are_there.ensures ∙ w.if-not-are_there.true in
          sym all ∙ rw e refl)
      | then-not-are_there-via-else-not-are_there+then-not-are_there-2 w ↦
          (let e : list_all is_some columns.weekdays ≡ false = sym w.are_there-else-not-are_there.ensures ∙ w.if-not-are_there-2.true in
          sym all ∙ rw e (and-false (list_all is_some (columns.service ∷ columns.start ∷ columns.end ∷ []))))
    ] in
    on-ok-then c.add_lacking.result c.add_lacking.ensures (lacking-added files.Calendar column_names true (row_faults (calendar_row_tests table) (rows_of table)) [] table lacks)

pub returns : goal.returns
returns c =
    let table = c.args.sheet.now in
    let columns = c.calendar_columns-columns.result in
    let e : list_all is_some (columns.service ∷ columns.start ∷ columns.end ∷ []) ≡ true = sym c.are_there.ensures ∙ c.if-not-are_there.false in
    let d : list_all is_some columns.weekdays ≡ true = sym c.are_there-else-not-are_there.ensures ∙ c.if-not-are_there-2.false in
    let there : list_all (λ name. is_some (column_of table name)) column_names ≡ true = sym (all-there table columns c.calendar_columns-columns.ensures) ∙ rw (e, d) refl in
    plain-added files.Calendar column_names true (row_faults (calendar_row_tests table) (rows_of table)) table there c.in_ok-list_services.ensures c.in_ok-add_size.ensures.adds
