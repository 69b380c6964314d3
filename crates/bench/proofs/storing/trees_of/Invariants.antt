use Rattle.std.proofs.Common.{◌≡◌}
use Rattle.std.specs.Arc.{arc_value}
use Rattle.rounds.specs.Scratch.{IsMadeFor, rides_of}
use Rattle.bench.proofs.storing.trees_of.Given as goal

abbrev pub invariant-loop-number : goal.invariant-loop-number
invariant-loop-number l = record {
  made : IsMadeFor l.scratch (arc_value l.table);
  rides : rides_of l.scratch ≡ l.rides;
}
