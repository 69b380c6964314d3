use Rattle.std.proofs.Common.{◌∙◌, sym, true, false, arith}
use Rattle.std.proofs.lemmas.Result.{err_from_is_err_and}
use Rattle.gtfs_text.specs.Sheets.{row_count}
use Rattle.gtfs_rows.specs.declared.fault.FeedFile.TheVariants as files
use Rattle.gtfs_services.specs.Calendar.{column_names, calendar_row_tests}
use Rattle.gtfs_rows.proofs.RowFacts.{table_rest, table_row_fault, too_many, few_and}
use Rattle.gtfs_services.proofs.CalendarFacts.{are_there}
use Rattle.gtfs_services.proofs.calendar.read_sheet.Goals as goal

pub returns-in_err-rows : goal.returns-in_err-rows
returns-in_err-rows c =
    let there = are_there c.args.sheet.now c.calendar_columns-columns.result c.calendar_columns-columns.ensures (sym c.are_there.ensures ∙ c.if-not-are_there.false) (sym c.are_there-else-not-are_there.ensures ∙ c.if-not-are_there-2.false) in
    let p = err_from_is_err_and c.from_residual.result c.from_residual.ensures.1 in
    let f = c.in_err-rows.field-0.0 in
    rw (p.1, p.2) (table_row_fault files.Calendar column_names calendar_row_tests (λ _. true) c.args.sheet.now f.kind f there c.in_err-rows.ensures)

pub returns-then-rows-gt-ROW_LIMIT : goal.returns-then-rows-gt-ROW_LIMIT
returns-then-rows-gt-ROW_LIMIT c =
    let there = are_there c.args.sheet.now c.calendar_columns-columns.result c.calendar_columns-columns.ensures (sym c.are_there.ensures ∙ c.if-not-are_there.false) (sym c.are_there-else-not-are_there.ensures ∙ c.if-not-are_there-2.false) in
    let small = too_many (row_count c.args.sheet.now) 999_999_999 true (omega (arith, c.rows.ensures, c.if-rows-gt-ROW_LIMIT.true)) in
    rw c.new-then-rows-gt-ROW_LIMIT.ensures (table_rest files.Calendar column_names calendar_row_tests (λ _. true) c.args.sheet.now false there c.in_ok-rows.ensures.0 small)

pub returns : goal.returns
returns c =
    let there = are_there c.args.sheet.now c.calendar_columns-columns.result c.calendar_columns-columns.ensures (sym c.are_there.ensures ∙ c.if-not-are_there.false) (sym c.are_there-else-not-are_there.ensures ∙ c.if-not-are_there-2.false) in
    let small = few_and (row_count c.args.sheet.now) 999_999_999 true (omega (arith, c.rows.ensures, c.if-rows-gt-ROW_LIMIT.false)) in
    (table_rest files.Calendar column_names calendar_row_tests (λ _. true) c.args.sheet.now true there c.in_ok-rows.ensures.0 small, c.in_ok-rows.ensures.1)
