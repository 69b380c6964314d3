use Rattle.std.proofs.lemmas.Result.{IfOk-from_err}
use Rattle.rounds.proofs.scratch.no_rounds.Goals as goal

pub returns-in_err-rounds-clause-count : goal.returns-in_err-rounds-clause-count
returns-in_err-rounds-clause-count c = IfOk-from_err _ _ c.from_residual.ensures.0

pub returns-in_err-rounds-clause-sizes : goal.returns-in_err-rounds-clause-sizes
returns-in_err-rounds-clause-sizes c = IfOk-from_err _ _ c.from_residual.ensures.0

pub returns-in_err-empty-clause-count : goal.returns-in_err-empty-clause-count
returns-in_err-empty-clause-count c = IfOk-from_err _ _ c.from_residual-in_err-empty.ensures.0

pub returns-in_err-empty-clause-sizes : goal.returns-in_err-empty-clause-sizes
returns-in_err-empty-clause-sizes c = IfOk-from_err _ _ c.from_residual-in_err-empty.ensures.0

pub returns-in_err-push-clause-count : goal.returns-in_err-push-clause-count
returns-in_err-push-clause-count c = IfOk-from_err _ _ c.from_residual-in_err-push.ensures.0

pub returns-in_err-push-clause-sizes : goal.returns-in_err-push-clause-sizes
returns-in_err-push-clause-sizes c = IfOk-from_err _ _ c.from_residual-in_err-push.ensures.0
