use Rattle.std.proofs.lemmas.Result.{IfOk-from_err}
use Rattle.rounds.proofs.scratch.Scratch.scan.Goals as goal

pub run-requires-clause-table : goal.run-requires-clause-table
run-requires-clause-table c = c.requires.table

pub run-requires-clause-source : goal.run-requires-clause-source
run-requires-clause-source c = c.requires.from

pub run-requires-clause-early : goal.run-requires-clause-early
run-requires-clause-early c = c.requires.early

pub returns-in_err-view-clause-right : goal.returns-in_err-view-clause-right
returns-in_err-view-clause-right c = IfOk-from_err _ _ c.from_residual.ensures.0

pub points-requires-clause-from : goal.points-requires-clause-from
points-requires-clause-from c = c.requires.from

pub points-requires-clause-to : goal.points-requires-clause-to
points-requires-clause-to c = c.requires.to

pub points-requires-clause-early : goal.points-requires-clause-early
points-requires-clause-early c = c.requires.early
