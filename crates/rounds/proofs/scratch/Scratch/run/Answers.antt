use Rattle.std.proofs.Common.{◌<◌, sym, subst}
use Rattle.timetable.specs.Table.{stops_of}
use Rattle.rounds.proofs.scratch.Scratch.run.Goals as goal

pub run_kept-requires-clause-table : goal.run_kept-requires-clause-table
run_kept-requires-clause-table c = c.restart.ensures.same.made c.args.table.now c.requires.table

pub run_kept-requires-clause-source : goal.run_kept-requires-clause-source
run_kept-requires-clause-source c = subst (λ s. s < stops_of c.args.table.now) (sym c.restart.ensures.source) c.requires.source

pub run_kept-requires-clause-kept : goal.run_kept-requires-clause-kept
run_kept-requires-clause-kept c = c.restart.ensures.kept c.args.table.now c.args.depart c.requires.table
