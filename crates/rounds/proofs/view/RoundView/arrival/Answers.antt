use Rattle.std.proofs.Common.{◌∙◌, sym, ap}
use Rattle.rounds.specs.Mark.{arrival_of}
use Rattle.stop_labels.specs.Row.{RowData, arrivals_of}
use Rattle.rounds.proofs.RoundSteps.{some_or_none}
use Rattle.rounds.proofs.view.RoundView.arrival.Goals as goal

pub returns : goal.returns
returns c =
    let rounds = c.args.self.now.rounds.now in
    let row = c.index-self-rides.result in
    c.arrival.ensures ∙ (ap (λ (x : RowData). arrivals_of x c.args.stop) (sym c.index-self-rides.is)
    ∙ ap arrival_of (sym (some_or_none rounds c.args.rides row c.if-rides-eq0.false c.requires c.index-self-rides.is c.args.stop).0))
