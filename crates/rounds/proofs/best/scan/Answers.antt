use Rattle.std.proofs.lemmas.Result.{IfOk-from_err}
use Rattle.rounds.proofs.best.scan.Goals as goal

pub plain_rounds-requires-clause-source : goal.plain_rounds-requires-clause-source
plain_rounds-requires-clause-source c = c.requires.from

pub plain_rounds-requires-clause-early : goal.plain_rounds-requires-clause-early
plain_rounds-requires-clause-early c = c.requires.early

pub returns-in_err-rounds : goal.returns-in_err-rounds
returns-in_err-rounds c = IfOk-from_err _ _ c.from_residual.ensures.0

pub points-requires-clause-from : goal.points-requires-clause-from
points-requires-clause-from c = c.requires.from

pub points-requires-clause-to : goal.points-requires-clause-to
points-requires-clause-to c = c.requires.to

pub points-requires-clause-early : goal.points-requires-clause-early
points-requires-clause-early c = c.requires.early

pub returns : goal.returns
returns c = c.points.ensures
