use Rattle.std.proofs.Common.{sym, subst}
use Rattle.std.specs.List.{AllZip}
use Rattle.travel_matrix.specs.Rows.{IsCell}
use Rattle.travel_matrix.proofs.CellFacts.{zip_more}
use Rattle.travel_matrix.proofs.row.row_of.Goals as goal

pub loop-goal-preserved : goal.loop-goal-preserved
loop-goal-preserved c =
    subst (AllZip (IsCell c.args.list.now) _) (sym c.in_ok-push.ensures.items)
    (zip_more (IsCell c.args.list.now) c.args.goals.now c.loop-goal.row.items c.loop-goal.goal-index c.goal-item.result c.cell_of.result
    c.loop-goal-test.true c.goal-item.is c.loop-goal.invariant c.cell_of.ensures)
