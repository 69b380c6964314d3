use Rattle.std.proofs.Common.{◌∙◌, ap, ℕ, Option, List, map}
use Rattle.gtfs_rows.specs.Rows.{distinct, text_under, texts_in}
use Rattle.gtfs_stops.specs.Stops.{stop_id, stop_tests}
use Rattle.gtfs_rows.proofs.FilledFacts.{turn, turns_end}
use Rattle.file_faults.specs.Tables.{row_faults}
use Rattle.file_faults.proofs.KeyFacts.{new-once, once-joins}
use Rattle.file_faults.proofs.ListFacts.{adds-is, adds-none, adds-row}
use Rattle.file_faults.proofs.stops.list_rows.Goals as goal

pub loop-row-init : goal.loop-row-init
loop-row-init c = record { list = adds-none c.args.list.now; ids = ap texts_in c.requires.empty }

pub text_under-requires : goal.text_under-requires
text_under-requires c = (turn (c.into_iter-row-iterator.ensures.into_iter_gives ∙ c.filled_rows-row-items.ensures) _ _ c.loop-row.yielded_by c.in-Some.is c.next.ensures.steps).there

pub row_fault-kind-requires-clause-row : goal.row_fault-kind-requires-clause-row
row_fault-kind-requires-clause-row c = (turn (c.into_iter-row-iterator.ensures.into_iter_gives ∙ c.filled_rows-row-items.ensures) _ _ c.loop-row.yielded_by c.in-Some.is c.next.ensures.steps).there

pub row_fault-kind-requires-clause-is_new : goal.row_fault-kind-requires-clause-is_new
row_fault-kind-requires-clause-is_new c =
    let table = c.args.sheet.now in
    let row = c.in-Some.row in
    let here = turn (c.into_iter-row-iterator.ensures.into_iter_gives ∙ c.filled_rows-row-items.ensures) _ _ c.loop-row.yielded_by c.in-Some.is c.next.ensures.steps in
    c.in_ok-is_new.ensures.added ∙ new-once table (stop_id table) c.loop-row.yielded row c.loop-row.ids.keys c.text_under.result here c.loop-row.invariant.ids
    (c.text_under.ensures ∙ ap (λ (column : Option ℕ). text_under table column row) c.requires.columns.id)

pub loop-row-preserved : goal.loop-row-preserved
loop-row-preserved c =
    let table = c.args.sheet.now in
    let given = c.loop-row.yielded in
    let row = c.in-Some.row in
    let id = c.text_under.ensures ∙ ap (λ (column : Option ℕ). text_under table column row) c.requires.columns.id in
    record {
      list = adds-row (stop_tests table) given row _ (c.fault_of.ensures ∙ c.row_fault-kind.ensures) c.loop-row.invariant.list c.in_ok-add_found.ensures;
      ids = rw c.in_ok-is_new.ensures.keys (once-joins (stop_id table) given row c.loop-row.ids.keys c.text_under.result c.loop-row.invariant.ids id);
    }

pub returns-clause-list : goal.returns-clause-list
returns-clause-list c =
    let table = c.args.sheet.now in
    let all = turns_end table (c.into_iter-row-iterator.ensures.into_iter_gives ∙ c.filled_rows-row-items.ensures) _ _ c.loop-row.yielded_by c.in-None.is c.next.ensures.steps in
    adds-is (ap (row_faults (stop_tests table)) all) c.loop-row.invariant.list

pub returns-clause-ids : goal.returns-clause-ids
returns-clause-ids c =
    let table = c.args.sheet.now in
    c.loop-row.invariant.ids ∙ ap (λ (rows : List ℕ). distinct (map (stop_id table) rows)) (turns_end table (c.into_iter-row-iterator.ensures.into_iter_gives ∙ c.filled_rows-row-items.ensures) _ _ c.loop-row.yielded_by c.in-None.is c.next.ensures.steps)
