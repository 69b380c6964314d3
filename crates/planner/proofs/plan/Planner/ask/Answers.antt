use Rattle.std.proofs.Common.{sym, subst}
use Rattle.std.specs.List.{All}
use Rattle.section_store.specs.Lasting.{IsExact}
use Rattle.board.specs.declared.origin.Origin.{Origin}
use Rattle.planner.proofs.plan.Planner.ask.Goals as goal

pub returns-in-Ok-answer-clause-exact : goal.returns-in-Ok-answer-clause-exact
returns-in-Ok-answer-clause-exact c = λ right.
    c.in-Ok-answer.ensures.exact
    (subst (λ (o : Origin). All (IsExact c.args.self.now.form) o.opened.list) (sym c.in-Ok.ensures.board.1) right)
