use Rattle.question_lines.specs.Reading.{IsWithinLine}
use Rattle.question_lines.proofs.line.Line.read.Given as goal

abbrev pub invariant-parts : goal.invariant-parts
invariant-parts g l = IsWithinLine (g.R.Read.remaining l.fn.input) (g.R.Read.remaining l.input) l.self
