use Rattle.std.proofs.Common.{◌≡◌, ◌∙◌, ap, subst, ℕ, Option, None, true, not, map, [], ◌∷◌}
use Rattle.std.specs.List.{flat_map}
use Rattle.gtfs_text.specs.Sheets.{Table}
use Rattle.gtfs_rows.specs.declared.fault.FeedFile.TheVariants as files
use Rattle.gtfs_rows.specs.Faults.{first_fault, fault_at, test}
use Rattle.gtfs_rows.specs.Rows.{text_under, rows_of, has_new_key, is_empty, AreApart}
use Rattle.gtfs_stops.specs.Stops.{stop_id, stop_tests, parent_stands, means_stop, location_type, parent_station, ids_of_kind}
use Rattle.gtfs_rows.specs.declared.fault.FaultKind.TheVariants as kinds
use Rattle.gtfs_stops.specs.declared.stops.RowKind.TheVariants as row_kinds
use Rattle.gtfs_rows.proofs.FilledFacts.{turn, turns_end, turn_decides, turn_is_new, turn_joins, turn_apart}
use Rattle.gtfs_rows.proofs.RowFacts.{explains, row_passes, second_holds, option_none, option_some}
use Rattle.gtfs_stops.proofs.stops.test_rows.Goals as goal

-- a row that passes its tests has a new id
is_new : (table : Table) (row : ℕ) → first_fault (stop_tests table row) ≡ None → has_new_key table (stop_id table) row ≡ true
is_new table row passes = second_holds (test kinds.BadField files.Stops row (not (is_empty (stop_id table row)))) (test kinds.DuplicateKey files.Stops row (has_new_key table (stop_id table) row))
    (test kinds.UnknownReference files.Stops row (parent_stands (means_stop (location_type table row)) (parent_station table row) (ids_of_kind row_kinds.Station table)) ∷ []) passes

pub text_under-requires : goal.text_under-requires
text_under-requires c = (turn (c.into_iter-row-iterator.ensures.into_iter_gives ∙ c.filled_rows-row-items.ensures) _ _ c.loop-row.yielded_by c.in-Some.is c.next.ensures.steps).there

pub row_fault-requires-clause-row : goal.row_fault-requires-clause-row
row_fault-requires-clause-row c = (turn (c.into_iter-row-iterator.ensures.into_iter_gives ∙ c.filled_rows-row-items.ensures) _ _ c.loop-row.yielded_by c.in-Some.is c.next.ensures.steps).there

pub row_fault-requires-clause-is_new : goal.row_fault-requires-clause-is_new
row_fault-requires-clause-is_new c =
    let table = c.args.sheet.now in
    let row = c.in-Some.row in
    let here = turn (c.into_iter-row-iterator.ensures.into_iter_gives ∙ c.filled_rows-row-items.ensures) _ _ c.loop-row.yielded_by c.in-Some.is c.next.ensures.steps in
    c.in_ok-is_new.ensures.added ∙ turn_is_new table (stop_id table) c.loop-row.yielded row c.loop-row.ids.keys c.text_under.result here c.loop-row.invariant.ids
    (c.text_under.ensures ∙ ap (λ (column : Option ℕ). text_under table column row) c.requires.columns.id)

pub returns-in-Some-row_fault-clause-tests : goal.returns-in-Some-row_fault-clause-tests
returns-in-Some-row_fault-clause-tests c =
    let table = c.args.sheet.now in
    let row = c.in-Some.row in
    let here = turn (c.into_iter-row-iterator.ensures.into_iter_gives ∙ c.filled_rows-row-items.ensures) _ _ c.loop-row.yielded_by c.in-Some.is c.next.ensures.steps in
    let first = option_some (λ kind. fault_at kind files.Stops row) c.row_fault.result (first_fault (stop_tests table row)) c.in-Some-row_fault.kind c.row_fault.ensures c.in-Some-row_fault.is in
    rw c.new.ensures (explains c.in-Some-row_fault.kind (first_fault (flat_map (stop_tests table) (rows_of table))) (fault_at c.in-Some-row_fault.kind files.Stops row)
    (turn_decides table (stop_tests table) c.loop-row.yielded row (fault_at c.in-Some-row_fault.kind files.Stops row) here c.loop-row.invariant.passed first))

pub loop-row-preserved : goal.loop-row-preserved
loop-row-preserved c =
    let table = c.args.sheet.now in
    let given = c.loop-row.yielded in
    let row = c.in-Some.row in
    let here = turn (c.into_iter-row-iterator.ensures.into_iter_gives ∙ c.filled_rows-row-items.ensures) _ _ c.loop-row.yielded_by c.in-Some.is c.next.ensures.steps in
    let passes : first_fault (stop_tests table row) ≡ None = option_none (λ kind. fault_at kind files.Stops row) c.row_fault.result (first_fault (stop_tests table row)) c.row_fault.ensures c.in_default.is in
    let new : has_new_key table (stop_id table) row ≡ true = is_new table row passes in
    let id = c.text_under.ensures ∙ ap (λ (column : Option ℕ). text_under table column row) c.requires.columns.id in
    record {
      ids = rw c.in_ok-is_new.ensures.keys (turn_joins table (stop_id table) given row c.loop-row.ids.keys c.text_under.result here c.loop-row.invariant.ids id new);
      passed = row_passes (stop_tests table) given row c.loop-row.invariant.passed passes;
      apart = turn_apart table (stop_id table) given row here c.loop-row.invariant.apart new;
    }

pub returns-clause-tests : goal.returns-clause-tests
returns-clause-tests c =
    let table = c.args.sheet.now in
    subst (λ rows. first_fault (flat_map (stop_tests table) rows) ≡ None) (turns_end table (c.into_iter-row-iterator.ensures.into_iter_gives ∙ c.filled_rows-row-items.ensures) _ _ c.loop-row.yielded_by c.in-None.is c.next.ensures.steps) c.loop-row.invariant.passed

pub returns-clause-ids : goal.returns-clause-ids
returns-clause-ids c =
    let table = c.args.sheet.now in
    c.loop-row.invariant.ids ∙ ap (map (stop_id table)) (turns_end table (c.into_iter-row-iterator.ensures.into_iter_gives ∙ c.filled_rows-row-items.ensures) _ _ c.loop-row.yielded_by c.in-None.is c.next.ensures.steps)

pub returns-clause-apart : goal.returns-clause-apart
returns-clause-apart c =
    let table = c.args.sheet.now in
    subst (AreApart (stop_id table)) (turns_end table (c.into_iter-row-iterator.ensures.into_iter_gives ∙ c.filled_rows-row-items.ensures) _ _ c.loop-row.yielded_by c.in-None.is c.next.ensures.steps) c.loop-row.invariant.apart
