use Rattle.std.proofs.Common.{◌≡◌, ◌∙◌, sym, refl, ℕ, true, List, []}
use Rattle.std.specs.Prelude.{is_some}
use Rattle.std.specs.List.{list_all}
use Rattle.gtfs_text.specs.Sheets.{column_of}
use Rattle.gtfs_rows.specs.declared.fault.FeedFile.TheVariants as files
use Rattle.gtfs_rows.specs.Rows.{rows_of}
use Rattle.gtfs_services.specs.CalendarDates.{column_names}
use Rattle.file_faults.specs.Tables.{date_tests, row_faults}
use Rattle.file_faults.proofs.ListFacts.{on-ok-then}
use Rattle.file_faults.proofs.TableFacts.{lacking-added, plain-added}
use Rattle.file_faults.proofs.calendars.list_calendar_dates.Goals as goal

abbrev names : List (List ℕ)
names = column_names

pub returns-then-not-are_there : goal.returns-then-not-are_there
returns-then-not-are_there c =
    let table = c.args.sheet.now in
    let same : c.are_there.result ≡ list_all (λ name. is_some (column_of table name)) names =
    c.are_there.ensures ∙ rw (c.date_columns-columns.ensures.service, c.date_columns-columns.ensures.date, c.date_columns-columns.ensures.exception_type) refl in
    on-ok-then c.add_lacking.result c.add_lacking.ensures
    (lacking-added files.CalendarDates names true (row_faults (date_tests table) (rows_of table)) [] table (sym same ∙ c.if-not-are_there.true))

pub returns : goal.returns
returns c =
    let table = c.args.sheet.now in
    let same : c.are_there.result ≡ list_all (λ name. is_some (column_of table name)) names =
    c.are_there.ensures ∙ rw (c.date_columns-columns.ensures.service, c.date_columns-columns.ensures.date, c.date_columns-columns.ensures.exception_type) refl in
    plain-added files.CalendarDates names true (row_faults (date_tests table) (rows_of table)) table (sym same ∙ c.if-not-are_there.false)
    c.in_ok-list_days.ensures c.in_ok-add_size.ensures.adds
