use Rattle.std.proofs.Common.{◌∙◌, sym, ap, ℕ, List, [], ◌∷◌, ◌++◌}
use Rattle.gtfs_rows.specs.Rows.{texts_in}
use Rattle.gtfs_rows.proofs.FilledFacts.{IsTurn, turn, turns_end}
use Rattle.file_faults.specs.Seen.{start_keys}
use Rattle.file_faults.specs.Tables.{row_faults, start_tests}
use Rattle.file_faults.proofs.ListFacts.{adds-is, adds-none, adds-row}
use Rattle.file_faults.proofs.links.list_starts.Goals as goal

pub loop-row-init : goal.loop-row-init
loop-row-init c = record { list = adds-none c.args.list.now; seen = c.requires.empty }

pub start_fault-requires-clause-row : goal.start_fault-requires-clause-row
start_fault-requires-clause-row c = (turn (c.into_iter-row-iterator.ensures.into_iter_gives ∙ c.filled_rows-row-items.ensures) _ _ c.loop-row.yielded_by c.in-Some.is c.next.ensures.steps).there

pub start_fault-requires-clause-seen : goal.start_fault-requires-clause-seen
start_fault-requires-clause-seen c =
    let here : IsTurn c.args.sheet.now c.loop-row.yielded c.in-Some.row = turn (c.into_iter-row-iterator.ensures.into_iter_gives ∙ c.filled_rows-row-items.ensures) _ _ c.loop-row.yielded_by c.in-Some.is c.next.ensures.steps in
    c.loop-row.invariant.seen ∙ ap (start_keys (texts_in c.args.trips.now.keys) c.args.sheet.now) here.before

pub loop-row-preserved : goal.loop-row-preserved
loop-row-preserved c =
    let table = c.args.sheet.now in
    let trips = texts_in c.args.trips.now.keys in
    let row = c.in-Some.row in
    let here : IsTurn table c.loop-row.yielded row = turn (c.into_iter-row-iterator.ensures.into_iter_gives ∙ c.filled_rows-row-items.ensures) _ _ c.loop-row.yielded_by c.in-Some.is c.next.ensures.steps in
    record {
      list = adds-row (start_tests trips table) c.loop-row.yielded row _ c.in_ok-start_fault.ensures.found c.loop-row.invariant.list c.in_ok-add_found.ensures;
      seen = c.in_ok-start_fault.ensures.seen ∙ ap (λ (rows : List ℕ). start_keys trips table (rows ++ row ∷ [])) (sym here.before);
    }

pub returns : goal.returns
returns c =
    let table = c.args.sheet.now in
    let all = turns_end table (c.into_iter-row-iterator.ensures.into_iter_gives ∙ c.filled_rows-row-items.ensures) _ _ c.loop-row.yielded_by c.in-None.is c.next.ensures.steps in
    adds-is (ap (row_faults (start_tests (texts_in c.args.trips.now.keys) table)) all) c.loop-row.invariant.list
