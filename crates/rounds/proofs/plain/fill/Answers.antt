use Rattle.std.proofs.Common.{◌∙◌}
use Rattle.std.proofs.lemmas.Result.{IfOk-from_err, on_ok_weaker}
use Rattle.rounds.proofs.plain.fill.Goals as goal

pub returns : goal.returns
returns c = on_ok_weaker c.add_rounds.result (λ rounds. rounds c.args.source c.args.depart c.in_ok-ready.ensures) c.add_rounds.ensures

pub returns-in_err-ready : goal.returns-in_err-ready
returns-in_err-ready c = IfOk-from_err _ _ c.from_residual.ensures.0

pub returns-in_err-rode : goal.returns-in_err-rode
returns-in_err-rode c = IfOk-from_err _ _ c.from_residual-in_err-rode.ensures.0

pub add_rounds-requires-clause-ready : goal.add_rounds-requires-clause-ready
add_rounds-requires-clause-ready c = (c.args.source, c.args.depart, c.in_ok-ready.ensures)

pub add_rounds-requires-clause-size : goal.add_rounds-requires-clause-size
add_rounds-requires-clause-size c = c.in_ok-rode.ensures.size ∙ c.stops.ensures.value

pub add_rounds-requires-clause-none : goal.add_rounds-requires-clause-none
add_rounds-requires-clause-none c = c.in_ok-rode.ensures.none

pub add_rounds-requires-clause-fresh : goal.add_rounds-requires-clause-fresh
add_rounds-requires-clause-fresh c = c.in_ok-rode.ensures.fresh

pub add_rounds-requires-clause-rounds : goal.add_rounds-requires-clause-rounds
add_rounds-requires-clause-rounds c = c.requires.rounds
