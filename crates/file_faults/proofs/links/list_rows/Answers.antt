use Rattle.std.proofs.Common.{◌∙◌, ap}
use Rattle.gtfs_stops.specs.Stops.{lists_in}
use Rattle.gtfs_stops.specs.Transfers.{transfer_tests}
use Rattle.gtfs_rows.proofs.FilledFacts.{turn, turns_end}
use Rattle.file_faults.specs.Tables.{row_faults}
use Rattle.file_faults.proofs.ListFacts.{adds-is, adds-none, adds-row}
use Rattle.file_faults.proofs.links.list_rows.Goals as goal

pub loop-row-init : goal.loop-row-init
loop-row-init c = adds-none c.args.list.now

pub row_fault-kind-requires-clause-row : goal.row_fault-kind-requires-clause-row
row_fault-kind-requires-clause-row c = (turn (c.into_iter-row-iterator.ensures.into_iter_gives ∙ c.filled_rows-row-items.ensures) _ _ c.loop-row.yielded_by c.in-Some.is c.next.ensures.steps).there

pub loop-row-preserved : goal.loop-row-preserved
loop-row-preserved c =
    let tests = transfer_tests (lists_in c.args.ids.now) c.args.sheet.now in
    let row = c.in-Some.row in
    adds-row tests c.loop-row.yielded row _ (c.fault_of.ensures ∙ c.row_fault-kind.ensures) c.loop-row.invariant c.in_ok-add_found.ensures

pub returns : goal.returns
returns c =
    let table = c.args.sheet.now in
    let all = turns_end table (c.into_iter-row-iterator.ensures.into_iter_gives ∙ c.filled_rows-row-items.ensures) _ _ c.loop-row.yielded_by c.in-None.is c.next.ensures.steps in
    adds-is (ap (row_faults (transfer_tests (lists_in c.args.ids.now) table)) all) c.loop-row.invariant
