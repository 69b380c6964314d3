use Rattle.std.proofs.Common.{◌≡◌, ◌∙◌, sym, ap, subst, ℕ, Option, None, ◌++◌, ◌∷◌, [], map}
use Rattle.std.specs.List.{flat_map}
use Rattle.std.proofs.lemmas.List.{map_push}
use Rattle.std.proofs.lemmas.Result.{err_from_is_err_and}
use Rattle.gtfs_rows.specs.declared.values.CalendarRow.{CalendarRow}
use Rattle.gtfs_rows.specs.Faults.{first_fault}
use Rattle.gtfs_rows.specs.Rows.{text_under, rows_of}
use Rattle.gtfs_services.specs.Calendar.{service_id, calendar_row_tests, calendar_row_value}
use Rattle.gtfs_rows.proofs.FilledFacts.{turn, turns_end, turn_decides, turn_is_new, turn_joins}
use Rattle.gtfs_rows.proofs.RowFacts.{explained, row_passes}
use Rattle.gtfs_services.proofs.CalendarFacts.{is_new}
use Rattle.gtfs_services.proofs.calendar.keep_rows.Goals as goal

pub text_under-requires : goal.text_under-requires
text_under-requires c = (turn (c.into_iter-row-iterator.ensures.into_iter_gives ∙ c.filled_rows-row-items.ensures) _ _ c.loop-row.yielded_by c.in-Some.is c.next.ensures.steps).there

pub read_row-requires-clause-row : goal.read_row-requires-clause-row
read_row-requires-clause-row c = (turn (c.into_iter-row-iterator.ensures.into_iter_gives ∙ c.filled_rows-row-items.ensures) _ _ c.loop-row.yielded_by c.in-Some.is c.next.ensures.steps).there

pub read_row-requires-clause-is_new : goal.read_row-requires-clause-is_new
read_row-requires-clause-is_new c =
    let table = c.args.sheet.now in
    let row = c.in-Some.row in
    let here = turn (c.into_iter-row-iterator.ensures.into_iter_gives ∙ c.filled_rows-row-items.ensures) _ _ c.loop-row.yielded_by c.in-Some.is c.next.ensures.steps in
    c.in_ok-is_new.ensures.added ∙ turn_is_new table (service_id table) c.loop-row.yielded row c.loop-row.services.keys c.text_under.result here c.loop-row.invariant.services
    (c.text_under.ensures ∙ ap (λ (column : Option ℕ). text_under table column row) c.requires.columns.service)

pub returns-in_err-read_row : goal.returns-in_err-read_row
returns-in_err-read_row c =
    let table = c.args.sheet.now in
    let row = c.in-Some.row in
    let here = turn (c.into_iter-row-iterator.ensures.into_iter_gives ∙ c.filled_rows-row-items.ensures) _ _ c.loop-row.yielded_by c.in-Some.is c.next.ensures.steps in
    let p = err_from_is_err_and c.from_residual-in_err-read_row.result c.from_residual-in_err-read_row.ensures.1 in
    let f = c.in_err-read_row.field-0.0 in
    rw (p.1, p.2) (explained f.kind (first_fault (calendar_row_tests table row)) (first_fault (flat_map (calendar_row_tests table) (rows_of table))) f
    (turn_decides table (calendar_row_tests table) c.loop-row.yielded row f here c.loop-row.invariant.passed) c.in_err-read_row.ensures)

pub loop-row-preserved : goal.loop-row-preserved
loop-row-preserved c =
    let table = c.args.sheet.now in
    let given = c.loop-row.yielded in
    let row = c.in-Some.row in
    let here = turn (c.into_iter-row-iterator.ensures.into_iter_gives ∙ c.filled_rows-row-items.ensures) _ _ c.loop-row.yielded_by c.in-Some.is c.next.ensures.steps in
    let passes = c.in_ok-read_row.ensures.0 in
    let id = c.text_under.ensures ∙ ap (λ (column : Option ℕ). text_under table column row) c.requires.columns.service in
    record {
      services = rw c.in_ok-is_new.ensures.keys (turn_joins table (service_id table) given row c.loop-row.services.keys c.text_under.result here c.loop-row.invariant.services id (is_new table row passes));
      passed = row_passes (calendar_row_tests table) given row c.loop-row.invariant.passed passes;
      rows = rw (c.in_ok-push.ensures.items, c.loop-row.invariant.rows)
          (ap (λ (value : CalendarRow). map (calendar_row_value table) given ++ value ∷ []) c.in_ok-read_row.ensures.1 ∙ sym (map_push (calendar_row_value table) given row));
    }

pub returns : goal.returns
returns c =
    let table = c.args.sheet.now in
    let all = turns_end table (c.into_iter-row-iterator.ensures.into_iter_gives ∙ c.filled_rows-row-items.ensures) _ _ c.loop-row.yielded_by c.in-None.is c.next.ensures.steps in
    (subst (λ rows. first_fault (flat_map (calendar_row_tests table) rows) ≡ None) all c.loop-row.invariant.passed, c.loop-row.invariant.rows ∙ ap (map (calendar_row_value table)) all)
