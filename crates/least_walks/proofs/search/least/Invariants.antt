use Rattle.std.proofs.Common.{ℕ, ◌<◌, ◌≤◌, get_or}
use Rattle.std.specs.List.{Contains}
use Rattle.least_walks.specs.Ways.{WayData}
use Rattle.least_walks.proofs.search.least.Given as goal

abbrev pub invariant-loop-way : goal.invariant-loop-way
invariant-loop-way l = record {
  there : Contains l.ways l.least;
  below : (k : ℕ) (d : WayData) → k < l.way-index → l.least.walked ≤ (get_or l.ways k d).walked;
}
