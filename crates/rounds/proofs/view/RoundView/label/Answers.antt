use Rattle.std.proofs.Common.{◌≡◌, Option, Some, ◌∙◌, sym, ap, subst}
use Rattle.std.specs.Option.{IfSome}
use Rattle.rounds.specs.Mark.{Mark, at}
use Rattle.stop_labels.specs.Row.{RowData}
use Rattle.rounds.proofs.RoundSteps.{some_or_none}
use Rattle.rounds.proofs.view.RoundView.label.Goals as goal

pub returns-clause-none : goal.returns-clause-none
returns-clause-none c =
    let rounds = c.args.self.now.rounds.now in
    let same = (some_or_none rounds c.args.rides c.index-self-rides.result c.if-rides-eq0.false c.requires c.index-self-rides.is c.args.stop).0
    ∙ ap (λ (x : RowData). at x.marks c.args.stop) c.index-self-rides.is in (
      λ h. same ∙ c.label.ensures.none.0 h,
      λ e. c.label.ensures.none.1 (sym same ∙ e),
    )

pub returns-clause-some : goal.returns-clause-some
returns-clause-some c =
    let rounds = c.args.self.now.rounds.now in
    let same = (some_or_none rounds c.args.rides c.index-self-rides.result c.if-rides-eq0.false c.requires c.index-self-rides.is c.args.stop).0
    ∙ ap (λ (x : RowData). at x.marks c.args.stop) c.index-self-rides.is in
    subst (λ (o : Option Mark). IfSome c.label.result (λ label. o ≡ Some label.now)) (sym same) c.label.ensures.some
