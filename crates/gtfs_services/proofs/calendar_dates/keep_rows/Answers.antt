use Rattle.std.proofs.Common.{◌≡◌, ◌∙◌, sym, ap, subst, ℕ, Option, None, true, false, ◌++◌, ◌∷◌, [], map}
use Rattle.std.specs.List.{flat_map}
use Rattle.std.proofs.lemmas.List.{map_push}
use Rattle.std.proofs.lemmas.Result.{err_from_is_err_and}
use Rattle.gtfs_rows.specs.declared.values.CalendarDate.{CalendarDate}
use Rattle.gtfs_rows.specs.declared.fault.FaultKind.TheVariants as kinds
use Rattle.gtfs_rows.specs.declared.fault.FeedFile.TheVariants as files
use Rattle.gtfs_rows.specs.Faults.{first_fault, fault_at, test}
use Rattle.gtfs_rows.specs.Rows.{text_under, rows_of}
use Rattle.gtfs_services.specs.CalendarDates.{field_tests, calendar_date_tests, calendar_date_value, is_new_date}
use Rattle.gtfs_rows.proofs.FilledFacts.{turn, turns_end, turn_decides}
use Rattle.gtfs_rows.proofs.RowFacts.{explained, explains, sooner, row_passes}
use Rattle.gtfs_services.proofs.CalendarDateFacts.{Parts, row_parts, key_is, key_is_new, key_joins, last_test}
use Rattle.gtfs_services.proofs.calendar_dates.keep_rows.Goals as goal

pub read_row-requires-clause-row : goal.read_row-requires-clause-row
read_row-requires-clause-row c = (turn (c.into_iter-row-iterator.ensures.into_iter_gives ∙ c.filled_rows-row-items.ensures) _ _ c.loop-row.yielded_by c.in-Some.is c.next.ensures.steps).there

pub text_under-service-requires : goal.text_under-service-requires
text_under-service-requires c = (turn (c.into_iter-row-iterator.ensures.into_iter_gives ∙ c.filled_rows-row-items.ensures) _ _ c.loop-row.yielded_by c.in-Some.is c.next.ensures.steps).there

pub returns-in_err-value : goal.returns-in_err-value
returns-in_err-value c =
    let table = c.args.sheet.now in
    let row = c.in-Some.row in
    let here = turn (c.into_iter-row-iterator.ensures.into_iter_gives ∙ c.filled_rows-row-items.ensures) _ _ c.loop-row.yielded_by c.in-Some.is c.next.ensures.steps in
    let p = err_from_is_err_and c.from_residual.result c.from_residual.ensures.1 in
    let f = c.in_err-value.field-0.0 in
    rw (p.1, p.2) (explained f.kind (first_fault (calendar_date_tests table row)) (first_fault (flat_map (calendar_date_tests table) (rows_of table))) f
    (turn_decides table (calendar_date_tests table) c.loop-row.yielded row f here c.loop-row.invariant.passed)
    (sooner f.kind (field_tests table row) (test kinds.DuplicateKey files.CalendarDates row (is_new_date table row) ∷ []) f c.in_err-value.ensures))

pub returns-then-not-is_new : goal.returns-then-not-is_new
returns-then-not-is_new c =
    let table = c.args.sheet.now in
    let given = c.loop-row.yielded in
    let row = c.in-Some.row in
    let here = turn (c.into_iter-row-iterator.ensures.into_iter_gives ∙ c.filled_rows-row-items.ensures) _ _ c.loop-row.yielded_by c.in-Some.is c.next.ensures.steps in
    let service = c.text_under-service.ensures ∙ ap (λ (column : Option ℕ). text_under table column row) c.requires.columns.service in
    let key : ◌≡◌ {A = Parts} (c.service_date.result.0.now, c.service_date.result.1, c.service_date.result.2, c.service_date.result.3) (row_parts table row) =
    key_is table row c.service_date.result.0.now c.service_date.result.1 c.service_date.result.2 c.service_date.result.3 c.text_under-service.result.now c.in_ok-value.value
    c.service_date.ensures.service service c.service_date.ensures.year c.service_date.ensures.month c.service_date.ensures.day c.in_ok-value.ensures.1 in
    let old : is_new_date table row ≡ false = sym (c.in_ok-is_new.ensures.added ∙ key_is_new table given row c.loop-row.dates.keys c.service_date.result here c.loop-row.invariant.dates key) ∙ c.if-not-is_new.true in
    let fails = last_test table row false c.in_ok-value.ensures.0 old in
    rw c.new.ensures (explains kinds.DuplicateKey (first_fault (flat_map (calendar_date_tests table) (rows_of table))) (fault_at kinds.DuplicateKey files.CalendarDates row)
    (turn_decides table (calendar_date_tests table) given row (fault_at kinds.DuplicateKey files.CalendarDates row) here c.loop-row.invariant.passed fails))

pub loop-row-preserved : goal.loop-row-preserved
loop-row-preserved c =
    let table = c.args.sheet.now in
    let given = c.loop-row.yielded in
    let row = c.in-Some.row in
    let here = turn (c.into_iter-row-iterator.ensures.into_iter_gives ∙ c.filled_rows-row-items.ensures) _ _ c.loop-row.yielded_by c.in-Some.is c.next.ensures.steps in
    let service = c.text_under-service.ensures ∙ ap (λ (column : Option ℕ). text_under table column row) c.requires.columns.service in
    let key : ◌≡◌ {A = Parts} (c.service_date.result.0.now, c.service_date.result.1, c.service_date.result.2, c.service_date.result.3) (row_parts table row) =
    key_is table row c.service_date.result.0.now c.service_date.result.1 c.service_date.result.2 c.service_date.result.3 c.text_under-service.result.now c.in_ok-value.value
    c.service_date.ensures.service service c.service_date.ensures.year c.service_date.ensures.month c.service_date.ensures.day c.in_ok-value.ensures.1 in
    let lacks = sym c.in_ok-is_new.ensures.added ∙ c.if-not-is_new.false in
    let new : is_new_date table row ≡ true = sym (key_is_new table given row c.loop-row.dates.keys c.service_date.result here c.loop-row.invariant.dates key) ∙ lacks in
    let passes = last_test table row true c.in_ok-value.ensures.0 new in
    record {
      dates = rw c.in_ok-is_new.ensures.keys (key_joins table given row c.loop-row.dates.keys c.service_date.result c.loop-row.invariant.dates key lacks);
      passed = row_passes (calendar_date_tests table) given row c.loop-row.invariant.passed passes;
      rows = rw (c.in_ok-push.ensures.items, c.loop-row.invariant.rows)
          (ap (λ (value : CalendarDate). map (calendar_date_value table) given ++ value ∷ []) c.in_ok-value.ensures.1 ∙ sym (map_push (calendar_date_value table) given row));
    }

pub returns : goal.returns
returns c =
    let table = c.args.sheet.now in
    let all = turns_end table (c.into_iter-row-iterator.ensures.into_iter_gives ∙ c.filled_rows-row-items.ensures) _ _ c.loop-row.yielded_by c.in-None.is c.next.ensures.steps in
    (subst (λ rows. first_fault (flat_map (calendar_date_tests table) rows) ≡ None) all c.loop-row.invariant.passed, c.loop-row.invariant.rows ∙ ap (map (calendar_date_value table)) all)
