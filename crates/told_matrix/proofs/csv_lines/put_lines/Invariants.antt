use Rattle.std.proofs.Common.{take}
use Rattle.told_matrix.specs.Lines.{lines_from}
use Rattle.told_matrix.specs.Writers.{Adds}
use Rattle.told_matrix.proofs.csv_lines.put_lines.Given as goal

abbrev pub invariant-loop-number : goal.invariant-loop-number
invariant-loop-number g l =
    Adds g.W.Write.contents (lines_from l.from (take l.number l.goals) (take l.number l.row)) l.initial.out l.out
