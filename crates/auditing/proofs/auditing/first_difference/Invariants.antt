use Rattle.std.proofs.Common.{◌≡◌, ℕ, ◌<◌, ◌≤◌, slice_index}
use Rattle.pattern_tree.specs.Content.{longest}
use Rattle.rounds.specs.Scratch.{IsMadeFor, rides_of}
use Rattle.auditing.specs.Audits.{AgreesAt}
use Rattle.auditing.proofs.auditing.first_difference.Given as goal

abbrev pub invariant-loop-depart : goal.invariant-loop-depart
invariant-loop-depart l = record {
  made : IsMadeFor l.scratch l.network;
  rides : rides_of l.scratch ≡ l.fn.rides;
  so_far : longest l.patterns.pairs ≤ l.fn.rides → (i : ℕ) → i < l.depart-index → AgreesAt l.network l.patterns l.fn.rides (slice_index l.depart-items i);
}
