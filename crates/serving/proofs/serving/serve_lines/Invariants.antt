use Rattle.std.proofs.Common.{◌≡◌}
use Rattle.serving.specs.Answers.{IsReply}
use Rattle.serving.specs.Tellings.{IsReplyText}
use Rattle.serving.proofs.RunFacts.{SoFar}
use Rattle.serving.proofs.serving.serve_lines.Given as goal

abbrev pub invariant-lines : goal.invariant-lines
invariant-lines g l = record {
  own : l.reader.origin.form ≡ l.planner.form;
  so_far : SoFar (IsReplyText (g.T.ReplyTeller.tells l.teller l.basis) (IsReply l.planner l.basis (g.T.ReplyTeller.tells_legs l.teller))) l.fn.reader (g.W.Write.contents l.fn.out) (g.R.Read.remaining l.fn.input) (g.R.Read.remaining l.input) l.reader
      (g.W.Write.contents l.out);
}
