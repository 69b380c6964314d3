use Rattle.rounds.specs.Scratch.{IsMadeFor}
use Rattle.bench.proofs.measuring.measure_trees.Given as goal

abbrev pub invariant-loop-number : goal.invariant-loop-number
invariant-loop-number l = IsMadeFor l.scratch l.timetable
