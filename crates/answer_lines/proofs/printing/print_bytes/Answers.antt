use Rattle.answer_lines.proofs.PrintingFacts.{not_flushed}
use Rattle.answer_lines.proofs.printing.print_bytes.Goals as goal

pub returns-in-Err-clause-refused : goal.returns-in-Err-clause-refused
returns-in-Err-clause-refused g c _ = not_flushed _ _ _ c.args.bytes.now c.in_ok-write_bytes.ensures.ok c.flush.ensures.bytes
