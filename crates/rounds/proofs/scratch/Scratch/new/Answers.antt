use Rattle.std.proofs.lemmas.Result.{IfOk-from_err}
use Rattle.rounds.proofs.scratch.Scratch.new.Goals as goal

pub returns-in_err-of-clause-table : goal.returns-in_err-of-clause-table
returns-in_err-of-clause-table c = IfOk-from_err _ _ c.from_residual.ensures.0

pub returns-in_err-of-clause-rides : goal.returns-in_err-of-clause-rides
returns-in_err-of-clause-rides c = IfOk-from_err _ _ c.from_residual.ensures.0

pub returns-in_err-lines-clause-table : goal.returns-in_err-lines-clause-table
returns-in_err-lines-clause-table c = IfOk-from_err _ _ c.from_residual-in_err-lines.ensures.0

pub returns-in_err-lines-clause-rides : goal.returns-in_err-lines-clause-rides
returns-in_err-lines-clause-rides c = IfOk-from_err _ _ c.from_residual-in_err-lines.ensures.0

pub returns-clause-table : goal.returns-clause-table
returns-clause-table c = c.over.ensures.table

pub returns-clause-rides : goal.returns-clause-rides
returns-clause-rides c = c.over.ensures.rides
