use Rattle.std.proofs.Common.{◌-◌, ◌<◌, ◌≤◌, length, ℕ, slice_index_or}
use Rattle.pattern_tree.specs.Forest.{Branch, IsBefore, step_of}
use Rattle.pattern_tree.specs.Branch.{branches}
use Rattle.pattern_tree.proofs.siblings.index_of.Given as goal

abbrev pub invariant-loop-low : goal.invariant-loop-low
invariant-loop-low g l = record {
  ordered : l.low ≤ l.high;
  in_range : l.high ≤ length (branches l.level);
  below : (k : ℕ) (d : Branch) → k < l.low → IsBefore (step_of (slice_index_or (branches l.level) k d)) l.step;
  above : (k : ℕ) (d : Branch) → l.high ≤ k → k < length (branches l.level) → IsBefore l.step (step_of (slice_index_or (branches l.level) k d));
}

abbrev pub decreases-loop-low : goal.decreases-loop-low
decreases-loop-low g l = l.high - l.low
