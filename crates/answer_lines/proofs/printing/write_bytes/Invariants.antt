use Rattle.answer_lines.specs.Printing.{AppendsBut}
use Rattle.answer_lines.proofs.printing.write_bytes.Given as goal

abbrev pub invariant-writes : goal.invariant-writes
invariant-writes g l = AppendsBut (g.W.Write.contents l.initial.out) (g.W.Write.contents l.out) l.bytes l.rest
