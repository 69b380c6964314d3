use Rattle.std.proofs.Common.{◌≡◌, ◌∙◌, sym, ap, subst, arith, ℕ, None, Some, filter, length}
use Rattle.std.specs.Prelude.{is_none}
use Rattle.std.specs.List.{flat_map, filter_map}
use Rattle.std.proofs.lemmas.List.{length_push}
use Rattle.gtfs_rows.specs.declared.fault.FeedFile.TheVariants as files
use Rattle.gtfs_rows.specs.Faults.{first_fault, fault_at}
use Rattle.gtfs_rows.specs.Rows.{rows_of}
use Rattle.gtfs_stops.specs.Stops.{lists_in}
use Rattle.gtfs_stops.specs.Transfers.{IsTransfer}
use Rattle.gtfs_stops.specs.Transfers.{transfer_tests, kept_transfer}
use Rattle.gtfs_rows.proofs.FilledFacts.{IsTurn, turn, turns_end, turn_decides, length-before}
use Rattle.gtfs_rows.proofs.RowFacts.{explains, row_passes, option_none, option_some, filtered_out}
use Rattle.gtfs_stops.proofs.TransferFacts.{kept_more, kept_same, one_more}
use Rattle.std.proofs.lemmas.List.Elements.{All-push}
use Rattle.gtfs_stops.proofs.transfers.read_rows.Goals as goal

pub row_fault-requires-clause-row : goal.row_fault-requires-clause-row
row_fault-requires-clause-row c = (turn (c.into_iter-row-iterator.ensures.into_iter_gives ∙ c.filled_rows-row-items.ensures) _ _ c.loop-row.yielded_by c.in-Some.is c.next.ensures.steps).there

pub returns-in-Some-row_fault-clause-transfers : goal.returns-in-Some-row_fault-clause-transfers
returns-in-Some-row_fault-clause-transfers c =
    let table = c.args.sheet.now in
    let tests = transfer_tests (lists_in c.args.ids.now) table in
    let row = c.in-Some.row in
    let here = turn (c.into_iter-row-iterator.ensures.into_iter_gives ∙ c.filled_rows-row-items.ensures) _ _ c.loop-row.yielded_by c.in-Some.is c.next.ensures.steps in
    let first = option_some (λ kind. fault_at kind files.Transfers row) c.row_fault.result (first_fault (tests row)) c.in-Some-row_fault.kind c.row_fault.ensures c.in-Some-row_fault.is in
    rw c.new.ensures (explains c.in-Some-row_fault.kind (first_fault (flat_map tests (rows_of table))) (fault_at c.in-Some-row_fault.kind files.Transfers row)
    (turn_decides table tests c.loop-row.yielded row (fault_at c.in-Some-row_fault.kind files.Transfers row) here c.loop-row.invariant.passed first))

pub kept_row-requires-clause-row : goal.kept_row-requires-clause-row
kept_row-requires-clause-row c = (turn (c.into_iter-row-iterator.ensures.into_iter_gives ∙ c.filled_rows-row-items.ensures) _ _ c.loop-row.yielded_by c.in-Some.is c.next.ensures.steps).there

pub overflow_add-skipped : goal.overflow_add-skipped
overflow_add-skipped c =
    let here : IsTurn c.args.sheet.now c.loop-row.yielded c.in-Some.row = turn (c.into_iter-row-iterator.ensures.into_iter_gives ∙ c.filled_rows-row-items.ensures) _ _ c.loop-row.yielded_by c.in-Some.is c.next.ensures.steps in
    omega (arith, c.loop-row.invariant.few, length-before c.args.sheet.now c.loop-row.yielded c.in-Some.row here)

pub loop-row-preserved-in-Continue-1 : goal.loop-row-preserved-in-Continue-1
loop-row-preserved-in-Continue-1 c =
    let table = c.args.sheet.now in
    let ids = lists_in c.args.ids.now in
    let tests = transfer_tests ids table in
    let kept = kept_transfer ids table in
    let given = c.loop-row.yielded in
    let row = c.in-Some.row in
    let old = c.loop-row.invariant in
    let passes : first_fault (tests row) ≡ None = option_none (λ kind. fault_at kind files.Transfers row) c.row_fault.result (first_fault (tests row)) c.row_fault.ensures c.in_default.is in
    let is : kept row ≡ Some c.in-Some-kept_row.transfer = sym c.kept_row.ensures.value ∙ c.in-Some-kept_row.is in
    rw c.in_ok-push-in-Some-kept_row.ensures.items (record {
      passed = row_passes tests given row old.passed passes;
      kept = kept_more kept (c.loop-row.transfers.items) given row c.in-Some-kept_row.transfer old.kept is;
      skipped = old.skipped ∙ ap (length {A = ℕ}) (sym (filtered_out (λ row. is_none (kept row)) given row (ap is_none is)));
      few = omega (arith, old.few, length_push given row);
      valid = All-push (IsTransfer (length c.args.ids.now.stops.keys) (length c.args.ids.now.stations.keys)) c.loop-row.transfers.items c.in-Some-kept_row.transfer old.valid c.in-Some-kept_row.ensures.valid;
    })

pub loop-row-preserved : goal.loop-row-preserved
loop-row-preserved c =
    let table = c.args.sheet.now in
    let ids = lists_in c.args.ids.now in
    let tests = transfer_tests ids table in
    let kept = kept_transfer ids table in
    let given = c.loop-row.yielded in
    let row = c.in-Some.row in
    let old = c.loop-row.invariant in
    let passes : first_fault (tests row) ≡ None = option_none (λ kind. fault_at kind files.Transfers row) c.row_fault.result (first_fault (tests row)) c.row_fault.ensures c.in_default.is in
    let is : kept row ≡ None = sym c.kept_row.ensures.value ∙ c.in-None-kept_row.is in
    record {
      passed = row_passes tests given row old.passed passes;
      kept = kept_same kept (c.loop-row.transfers.items) given row old.kept is;
      skipped = one_more (λ row. is_none (kept row)) c.loop-row.skipped given row old.skipped (ap is_none is);
      few = omega (arith, old.few, length_push given row);
      valid = old.valid;
    }

pub returns-clause-transfers : goal.returns-clause-transfers
returns-clause-transfers c =
    let table = c.args.sheet.now in
    let ids = lists_in c.args.ids.now in
    let all = turns_end table (c.into_iter-row-iterator.ensures.into_iter_gives ∙ c.filled_rows-row-items.ensures) _ _ c.loop-row.yielded_by c.in-None.is c.next.ensures.steps in
    (subst (λ rows. first_fault (flat_map (transfer_tests ids table) rows) ≡ None) all c.loop-row.invariant.passed, c.loop-row.invariant.kept ∙ ap (filter_map (kept_transfer ids table)) all)

pub returns-clause-skipped : goal.returns-clause-skipped
returns-clause-skipped c =
    let table = c.args.sheet.now in
    c.loop-row.invariant.skipped ∙ ap (λ rows. length (filter (λ row. is_none (kept_transfer (lists_in c.args.ids.now) table row)) rows)) (turns_end table (c.into_iter-row-iterator.ensures.into_iter_gives ∙ c.filled_rows-row-items.ensures) _ _ c.loop-row.yielded_by c.in-None.is c.next.ensures.steps)
