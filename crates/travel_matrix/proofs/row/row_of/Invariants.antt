use Rattle.std.proofs.Common.{take}
use Rattle.std.specs.List.{AllZip}
use Rattle.travel_matrix.specs.Rows.{IsCell}
use Rattle.travel_matrix.proofs.row.row_of.Given as goal

abbrev pub invariant-loop-goal : goal.invariant-loop-goal
invariant-loop-goal l = AllZip (IsCell l.list) (take l.goal-index l.goals) l.row.items
