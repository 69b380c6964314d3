use Rattle.std.proofs.Common.{◌∙◌, sym, ap}
use Rattle.stop_labels.specs.Row.{RowData, settled_of}
use Rattle.rounds.proofs.RoundSteps.{some_or_none}
use Rattle.rounds.proofs.view.RoundView.before.Goals as goal

pub returns : goal.returns
returns c =
    let rounds = c.args.self.now.rounds.now in
    let row = c.index-self-rides.result in
    c.settled.ensures ∙ (ap (λ (x : RowData). settled_of x c.args.stop) (sym c.index-self-rides.is)
    ∙ sym (some_or_none rounds c.args.rides row c.if-rides-eq0.false c.requires c.index-self-rides.is c.args.stop).1)
