use Rattle.std.proofs.Common.{◌∙◌, ap, inl, refl, subst}
use Rattle.serving.specs.Answers.{IsReply}
use Rattle.serving.proofs.ReplyFacts.{looks}
use Rattle.serving.proofs.RunFacts.{line_printed}
use Rattle.serving.proofs.serving.serve_line.Goals as goal

pub returns-clause-own : goal.returns-clause-own
returns-clause-own g c =
    let line = c.args.line.now in
    let legs = c.legs-legs.result in
    let look = looks c.args.planner.now c.args.basis.now legs line c.args.reader c.reply_of-reader.result.0 c.reply_of-reader.result.1
    (c.reply_of-reader.ensures line (c.question-question.ensures line (inl refl))) in
    ap (λ o. o.form) look.origin ∙ c.requires.own

pub returns-clause-replied : goal.returns-clause-replied
returns-clause-replied g c = λ text kept.
    let p = c.args.planner.now in
    let basis = c.args.basis.now in
    let legs = g.T.ReplyTeller.tells_legs c.args.teller.now in
    let old = c.args.reader in
    let new = c.reply_of-reader.result.0 in
    let reply = c.reply_of-reader.result.1 in
    let asks = c.question-question.ensures text kept in
    let is = subst (λ wanted. IsReply p basis wanted text old new reply) c.legs-legs.ensures (c.reply_of-reader.ensures text asks) in
    line_printed (g.T.ReplyTeller.tells c.args.teller.now basis) (IsReply p basis legs) text old new (g.W.Write.contents c.args.out.now)
    (g.W.Write.contents c.print_reply-printed.new.out) c.question-question.result reply c.print_reply-printed.result asks is
    (looks p basis legs text old new reply is) c.print_reply-printed.ensures.ok c.print_reply-printed.ensures.err
