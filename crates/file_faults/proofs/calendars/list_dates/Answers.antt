use Rattle.std.proofs.Common.{◌∙◌, sym, ap, subst, refl, ℕ, List, [], ◌∷◌, ◌++◌}
use Rattle.gtfs_rows.proofs.FilledFacts.{IsTurn, turn, turns_end}
use Rattle.file_faults.specs.Seen.{HasDates}
use Rattle.file_faults.specs.Tables.{row_faults, date_tests}
use Rattle.file_faults.proofs.ListFacts.{adds-is, adds-none, adds-row}
use Rattle.file_faults.proofs.calendars.list_dates.Goals as goal

pub loop-row-init : goal.loop-row-init
loop-row-init c = record { list = adds-none c.args.list.now; dates = rw c.requires.empty refl }

pub date_fault-requires-clause-row : goal.date_fault-requires-clause-row
date_fault-requires-clause-row c = (turn (c.into_iter-row-iterator.ensures.into_iter_gives ∙ c.filled_rows-row-items.ensures) _ _ c.loop-row.yielded_by c.in-Some.is c.next.ensures.steps).there

pub date_fault-requires-clause-dates : goal.date_fault-requires-clause-dates
date_fault-requires-clause-dates c =
    let here : IsTurn c.args.sheet.now c.loop-row.yielded c.in-Some.row = turn (c.into_iter-row-iterator.ensures.into_iter_gives ∙ c.filled_rows-row-items.ensures) _ _ c.loop-row.yielded_by c.in-Some.is c.next.ensures.steps in
    subst (λ (rows : List ℕ). HasDates c.args.sheet.now rows c.loop-row.dates.keys) here.before c.loop-row.invariant.dates

pub loop-row-preserved : goal.loop-row-preserved
loop-row-preserved c =
    let table = c.args.sheet.now in
    let row = c.in-Some.row in
    let here : IsTurn table c.loop-row.yielded row = turn (c.into_iter-row-iterator.ensures.into_iter_gives ∙ c.filled_rows-row-items.ensures) _ _ c.loop-row.yielded_by c.in-Some.is c.next.ensures.steps in
    record {
      list = adds-row (date_tests table) c.loop-row.yielded row _ c.in_ok-date_fault.ensures.found c.loop-row.invariant.list c.in_ok-add_found.ensures;
      dates = subst (λ (rows : List ℕ). HasDates table (rows ++ row ∷ []) c.date_fault.new.dates.keys) (sym here.before) c.in_ok-date_fault.ensures.dates;
    }

pub returns : goal.returns
returns c =
    let table = c.args.sheet.now in
    let all = turns_end table (c.into_iter-row-iterator.ensures.into_iter_gives ∙ c.filled_rows-row-items.ensures) _ _ c.loop-row.yielded_by c.in-None.is c.next.ensures.steps in
    adds-is (ap (row_faults (date_tests table)) all) c.loop-row.invariant.list
