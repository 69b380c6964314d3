use Rattle.std.proofs.lemmas.Result.{IfOk-from_err}
use Rattle.rounds.proofs.scratch.Scratch.over.Goals as goal

pub returns-in_err-no_layers-clause-table : goal.returns-in_err-no_layers-clause-table
returns-in_err-no_layers-clause-table c = IfOk-from_err _ _ c.from_residual.ensures.0

pub returns-in_err-no_layers-clause-rides : goal.returns-in_err-no_layers-clause-rides
returns-in_err-no_layers-clause-rides c = IfOk-from_err _ _ c.from_residual.ensures.0

pub returns-in_err-no_rounds-clause-table : goal.returns-in_err-no_rounds-clause-table
returns-in_err-no_rounds-clause-table c = IfOk-from_err _ _ c.from_residual-in_err-no_rounds.ensures.0

pub returns-in_err-no_rounds-clause-rides : goal.returns-in_err-no_rounds-clause-rides
returns-in_err-no_rounds-clause-rides c = IfOk-from_err _ _ c.from_residual-in_err-no_rounds.ensures.0

pub returns-in_err-none-clause-table : goal.returns-in_err-none-clause-table
returns-in_err-none-clause-table c = IfOk-from_err _ _ c.from_residual-in_err-none.ensures.0

pub returns-in_err-none-clause-rides : goal.returns-in_err-none-clause-rides
returns-in_err-none-clause-rides c = IfOk-from_err _ _ c.from_residual-in_err-none.ensures.0
