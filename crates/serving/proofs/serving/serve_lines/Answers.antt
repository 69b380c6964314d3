use Rattle.std.proofs.Common.{◌∙◌, ap, subst, sym}
use Rattle.std.proofs.KnownBytes.{Appends-nil}
use Rattle.board.specs.Ties.{BoardPart}
use Rattle.question_lines.specs.Lines.{ReadsLine}
use Rattle.serving.specs.Answers.{IsReply}
use Rattle.serving.specs.Runs.{IsCutOff, IsReplied}
use Rattle.serving.specs.Tellings.{IsReplyText}
use Rattle.serving.proofs.RunFacts.{SoFar, of_err, of_ok, refused_served, served_more, served_none}
use Rattle.serving.proofs.serving.serve_lines.Goals as goal

pub lines-init : goal.lines-init
lines-init g c =
    let Right = IsReplyText (g.T.ReplyTeller.tells c.args.teller.now c.args.basis.now)
    (IsReply c.args.planner.now c.args.basis.now (g.T.ReplyTeller.tells_legs c.args.teller.now)) in
    let out = g.W.Write.contents c.args.out.now in
    let input = g.R.Read.remaining c.args.input.now in
    record {
      own = ap (λ (now : BoardPart). now.origin.form) c.reader.view_is ∙ c.requires.own;
      so_far = subst (λ (now : BoardPart). SoFar Right c.args.reader out input input now out) (sym c.reader.view_is)
          (served_none Right c.args.reader out input (Appends-nil out));
    }

pub lines-preserved : goal.lines-preserved
lines-preserved g c =
    let Right = IsReplyText (g.T.ReplyTeller.tells c.args.teller.now c.args.basis.now)
    (IsReply c.args.planner.now c.args.basis.now (g.T.ReplyTeller.tells_legs c.args.teller.now)) in
    let out = g.W.Write.contents c.args.out.now in
    let input = g.R.Read.remaining c.args.input.now in
    let left = g.R.Read.remaining c.lines.input in
    let rest = g.R.Read.remaining c.read.new.input in
    let mid = g.W.Write.contents c.lines.out in
    let new = g.W.Write.contents c.serve_line-next.new.out in
    let kept = c.read.new.self in
    let next = c.serve_line-next.result.0 in
    let loses = subst (ReadsLine left rest kept) c.in-Ok-true.field-0-test c.in-Ok-true.ensures in
    record {
      own = c.serve_line-next.ensures.own;
      so_far = served_more Right c.args.reader out input left rest c.lines.reader next mid new kept c.lines.invariant.so_far loses (λ text is.
          of_ok c.serve_line-next.result.1 (IsReplied Right text c.lines.reader next mid new) (IsCutOff Right text c.lines.reader next mid new)
          (sym c.is_err.ensures.value ∙ c.if-is_err.false) (c.serve_line-next.ensures.replied text is));
    }

pub returns-then-is_err : goal.returns-then-is_err
returns-then-is_err g c =
    let Right = IsReplyText (g.T.ReplyTeller.tells c.args.teller.now c.args.basis.now)
    (IsReply c.args.planner.now c.args.basis.now (g.T.ReplyTeller.tells_legs c.args.teller.now)) in
    let out = g.W.Write.contents c.args.out.now in
    let input = g.R.Read.remaining c.args.input.now in
    let left = g.R.Read.remaining c.lines.input in
    let rest = g.R.Read.remaining c.read.new.input in
    let mid = g.W.Write.contents c.lines.out in
    let new = g.W.Write.contents c.serve_line-next.new.out in
    let kept = c.read.new.self in
    let next = c.serve_line-next.result.0 in
    let loses = subst (ReadsLine left rest kept) c.in-Ok-true.field-0-test c.in-Ok-true.ensures in
    refused_served Right c.args.reader out input left rest c.lines.reader next mid new kept c.lines.invariant.so_far loses (λ text is.
    of_err c.serve_line-next.result.1 (IsReplied Right text c.lines.reader next mid new) (IsCutOff Right text c.lines.reader next mid new)
    (sym c.is_err.ensures.value ∙ c.if-is_err.true) (c.serve_line-next.ensures.replied text is))
