use Rattle.std.proofs.Common.{take}
use Rattle.told_matrix.specs.Lines.{lines_of}
use Rattle.told_matrix.specs.Writers.{Adds}
use Rattle.told_matrix.proofs.csv_lines.put_all.Given as goal

abbrev pub invariant-loop-number : goal.invariant-loop-number
invariant-loop-number g l =
    Adds g.W.Write.contents (lines_of (take l.number l.origins) l.goals (take l.number l.rows)) l.initial.out l.out
