use Rattle.std.proofs.Common.{◌≡◌, ◌∙◌, ap, refl, subst, arith, ℕ, Bool, Option, None, true, false, not, map, codes, [], ◌∷◌}
use Rattle.std.specs.Prelude.{is_some}
use Rattle.std.specs.List.{flat_map, list_all}
use Rattle.gtfs_text.specs.Sheets.{Table, column_of, row_count}
use Rattle.gtfs_rows.specs.declared.fault.FeedFile.TheVariants as files
use Rattle.gtfs_rows.specs.Faults.{first_fault, fault_at, test}
use Rattle.gtfs_rows.specs.Rows.{text_under, rows_of, has_new_key, is_empty}
use Rattle.gtfs_services.specs.Trips.{trip_id, trip_tests, service_id, AreTripColumns}
use Rattle.gtfs_services.specs.declared.trips.TripColumns.{TripColumns}
use Rattle.gtfs_rows.specs.declared.fault.FaultKind.TheVariants as kinds
use Rattle.gtfs_rows.proofs.FilledFacts.{turn, turns_end, turn_decides, turn_is_new, turn_joins}
use Rattle.gtfs_rows.proofs.RowFacts.{explains, row_passes, second_holds, option_none, option_some, is_there, table_rest, table_row_fault, too_many, few_and}
use Rattle.gtfs_services.proofs.trips.test_rows.Goals as goal

-- each column is there
are_there : (table : Table) (columns : TripColumns) (a b : Bool) → AreTripColumns table columns → is_some columns.id ≡ not a → is_some columns.service ≡ not b → a ≡ false → b ≡ false
    → list_all (λ name. is_some (column_of table name)) (codes "trip_id" ∷ codes "service_id" ∷ []) ≡ true
are_there table columns a b are ia ib ea eb = rw (is_there columns.id (column_of table (codes "trip_id")) a are.id ia ea, is_there columns.service (column_of table (codes "service_id")) b are.service ib eb) refl

-- a row that passes its tests has a new id
is_new : (table : Table) (row : ℕ) → first_fault (trip_tests table row) ≡ None → has_new_key table (trip_id table) row ≡ true
is_new table row passes = second_holds (test kinds.BadField files.Trips row (not (is_empty (trip_id table row)))) (test kinds.DuplicateKey files.Trips row (has_new_key table (trip_id table) row))
    (test kinds.BadField files.Trips row (not (is_empty (service_id table row))) ∷ []) passes

pub text_under-requires : goal.text_under-requires
text_under-requires c = (turn (c.into_iter-row-iterator.ensures.into_iter_gives ∙ c.filled_rows-row-items.ensures) _ _ c.loop-row.yielded_by c.in-Some.is c.next.ensures.steps).there

pub row_fault-requires-clause-row : goal.row_fault-requires-clause-row
row_fault-requires-clause-row c = (turn (c.into_iter-row-iterator.ensures.into_iter_gives ∙ c.filled_rows-row-items.ensures) _ _ c.loop-row.yielded_by c.in-Some.is c.next.ensures.steps).there

pub row_fault-requires-clause-is_new : goal.row_fault-requires-clause-is_new
row_fault-requires-clause-is_new c =
    let table = c.args.sheet.now in
    let row = c.in-Some.row in
    let here = turn (c.into_iter-row-iterator.ensures.into_iter_gives ∙ c.filled_rows-row-items.ensures) _ _ c.loop-row.yielded_by c.in-Some.is c.next.ensures.steps in
    c.in_ok-is_new.ensures.added ∙ turn_is_new table (trip_id table) c.loop-row.yielded row c.loop-row.ids.keys c.text_under.result here c.loop-row.invariant.ids
    (c.text_under.ensures ∙ ap (λ (column : Option ℕ). text_under table column row) c.requires.columns.id)

pub returns-in-Some-row_fault-clause-tests : goal.returns-in-Some-row_fault-clause-tests
returns-in-Some-row_fault-clause-tests c =
    let table = c.args.sheet.now in
    let row = c.in-Some.row in
    let there = are_there table c.args.columns c.is_none.result c.is_none-else-is_none.result c.requires.columns c.is_none.ensures c.is_none-else-is_none.ensures c.if-is_none.false c.if-is_none-2.false in
    let here = turn (c.into_iter-row-iterator.ensures.into_iter_gives ∙ c.filled_rows-row-items.ensures) _ _ c.loop-row.yielded_by c.in-Some.is c.next.ensures.steps in
    let kind = c.in-Some-row_fault.kind in
    let fault = fault_at kind files.Trips row in
    let first = option_some (λ kind. fault_at kind files.Trips row) c.row_fault.result (first_fault (trip_tests table row)) kind c.row_fault.ensures c.in-Some-row_fault.is in
    let decides = turn_decides table (trip_tests table) c.loop-row.yielded row fault here c.loop-row.invariant.passed first in
    rw c.new-in-Some-row_fault.ensures (table_row_fault files.Trips (codes "trip_id" ∷ codes "service_id" ∷ []) trip_tests (λ _. true) table kind fault there
    (explains kind (first_fault (flat_map (trip_tests table) (rows_of table))) fault decides))

pub loop-row-preserved : goal.loop-row-preserved
loop-row-preserved c =
    let table = c.args.sheet.now in
    let row = c.in-Some.row in
    let here = turn (c.into_iter-row-iterator.ensures.into_iter_gives ∙ c.filled_rows-row-items.ensures) _ _ c.loop-row.yielded_by c.in-Some.is c.next.ensures.steps in
    let passes : first_fault (trip_tests table row) ≡ None = option_none (λ kind. fault_at kind files.Trips row) c.row_fault.result (first_fault (trip_tests table row)) c.row_fault.ensures c.in_default.is in
    let id = c.text_under.ensures ∙ ap (λ (column : Option ℕ). text_under table column row) c.requires.columns.id in
    record {
      ids = rw c.in_ok-is_new.ensures.keys (turn_joins table (trip_id table) c.loop-row.yielded row c.loop-row.ids.keys c.text_under.result here c.loop-row.invariant.ids id (is_new table row passes));
      passed = row_passes (trip_tests table) c.loop-row.yielded row c.loop-row.invariant.passed passes;
    }

pub returns-then-rows-gt-ROW_LIMIT-clause-tests : goal.returns-then-rows-gt-ROW_LIMIT-clause-tests
returns-then-rows-gt-ROW_LIMIT-clause-tests c =
    let table = c.args.sheet.now in
    let there = are_there table c.args.columns c.is_none.result c.is_none-else-is_none.result c.requires.columns c.is_none.ensures c.is_none-else-is_none.ensures c.if-is_none.false c.if-is_none-2.false in
    let passed = subst (λ rows. first_fault (flat_map (trip_tests table) rows) ≡ None)
    (turns_end table (c.into_iter-row-iterator.ensures.into_iter_gives ∙ c.filled_rows-row-items.ensures) _ _ c.loop-row.yielded_by c.in-None.is c.next.ensures.steps) c.loop-row.invariant.passed in
    let small = too_many (row_count table) 999_999_999 true (omega (arith, c.rows.ensures, c.if-rows-gt-ROW_LIMIT.true)) in
    rw c.new-then-rows-gt-ROW_LIMIT.ensures (table_rest files.Trips (codes "trip_id" ∷ codes "service_id" ∷ []) trip_tests (λ _. true) table false there passed small)

pub returns-clause-tests : goal.returns-clause-tests
returns-clause-tests c =
    let table = c.args.sheet.now in
    let there = are_there table c.args.columns c.is_none.result c.is_none-else-is_none.result c.requires.columns c.is_none.ensures c.is_none-else-is_none.ensures c.if-is_none.false c.if-is_none-2.false in
    let passed = subst (λ rows. first_fault (flat_map (trip_tests table) rows) ≡ None)
    (turns_end table (c.into_iter-row-iterator.ensures.into_iter_gives ∙ c.filled_rows-row-items.ensures) _ _ c.loop-row.yielded_by c.in-None.is c.next.ensures.steps) c.loop-row.invariant.passed in
    let small = few_and (row_count table) 999_999_999 true (omega (arith, c.rows.ensures, c.if-rows-gt-ROW_LIMIT.false)) in
    table_rest files.Trips (codes "trip_id" ∷ codes "service_id" ∷ []) trip_tests (λ _. true) table true there passed small

pub returns-clause-ids : goal.returns-clause-ids
returns-clause-ids c =
    let table = c.args.sheet.now in
    c.loop-row.invariant.ids
    ∙ ap (map (trip_id table)) (turns_end table (c.into_iter-row-iterator.ensures.into_iter_gives ∙ c.filled_rows-row-items.ensures) _ _ c.loop-row.yielded_by c.in-None.is c.next.ensures.steps)
