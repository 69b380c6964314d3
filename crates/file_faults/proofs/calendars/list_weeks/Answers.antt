use Rattle.std.proofs.Common.{◌∙◌, ap, ℕ, Option}
use Rattle.gtfs_rows.specs.Rows.{text_under, texts_in}
use Rattle.gtfs_services.specs.Calendar.{service_id, calendar_row_tests}
use Rattle.gtfs_rows.proofs.FilledFacts.{turn, turns_end}
use Rattle.file_faults.specs.Tables.{row_faults}
use Rattle.file_faults.proofs.KeyFacts.{new-once, once-joins}
use Rattle.file_faults.proofs.ListFacts.{adds-is, adds-none, adds-row}
use Rattle.file_faults.proofs.calendars.list_weeks.Goals as goal

pub loop-row-init : goal.loop-row-init
loop-row-init c = record { list = adds-none c.args.list.now; services = ap texts_in c.requires.empty }

pub text_under-requires : goal.text_under-requires
text_under-requires c = (turn (c.into_iter-row-iterator.ensures.into_iter_gives ∙ c.filled_rows-row-items.ensures) _ _ c.loop-row.yielded_by c.in-Some.is c.next.ensures.steps).there

pub week_fault-requires-clause-row : goal.week_fault-requires-clause-row
week_fault-requires-clause-row c = (turn (c.into_iter-row-iterator.ensures.into_iter_gives ∙ c.filled_rows-row-items.ensures) _ _ c.loop-row.yielded_by c.in-Some.is c.next.ensures.steps).there

pub week_fault-requires-clause-is_new : goal.week_fault-requires-clause-is_new
week_fault-requires-clause-is_new c =
    let table = c.args.sheet.now in
    let row = c.in-Some.row in
    let here = turn (c.into_iter-row-iterator.ensures.into_iter_gives ∙ c.filled_rows-row-items.ensures) _ _ c.loop-row.yielded_by c.in-Some.is c.next.ensures.steps in
    c.in_ok-is_new.ensures.added ∙ new-once table (service_id table) c.loop-row.yielded row c.loop-row.services.keys c.text_under.result here c.loop-row.invariant.services
    (c.text_under.ensures ∙ ap (λ (column : Option ℕ). text_under table column row) c.requires.columns.service)

pub loop-row-preserved : goal.loop-row-preserved
loop-row-preserved c =
    let table = c.args.sheet.now in
    let given = c.loop-row.yielded in
    let row = c.in-Some.row in
    let id = c.text_under.ensures ∙ ap (λ (column : Option ℕ). text_under table column row) c.requires.columns.service in
    record {
      list = adds-row (calendar_row_tests table) given row _ c.in_ok-week_fault.ensures c.loop-row.invariant.list c.in_ok-add_found.ensures;
      services = rw c.in_ok-is_new.ensures.keys (once-joins (service_id table) given row c.loop-row.services.keys c.text_under.result c.loop-row.invariant.services id);
    }

pub returns : goal.returns
returns c =
    let table = c.args.sheet.now in
    let all = turns_end table (c.into_iter-row-iterator.ensures.into_iter_gives ∙ c.filled_rows-row-items.ensures) _ _ c.loop-row.yielded_by c.in-None.is c.next.ensures.steps in
    adds-is (ap (row_faults (calendar_row_tests table)) all) c.loop-row.invariant.list
