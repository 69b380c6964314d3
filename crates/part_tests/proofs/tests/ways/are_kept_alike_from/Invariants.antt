use Rattle.std.proofs.Common.{◌≡◌, ℕ, ◌+◌, ◌*◌, ◌≤◌}
use Rattle.rounds.specs.Scratch.{IsMadeFor, MayGoOn, rides_of, source_of}
use Rattle.part_tests.proofs.tests.ways.are_kept_alike_from.Given as goal

abbrev pub invariant-loop-step : goal.invariant-loop-step
invariant-loop-step l = record {
  made : IsMadeFor l.scratch l.table;
  rides : rides_of l.scratch ≡ 3;
  from : source_of l.scratch ≡ l.source;
  may : (d : ℕ) → d + 1_000 * l.step ≤ 140_000 → MayGoOn l.table d l.scratch;
}
