use Rattle.std.proofs.Common.{ℕ, ◌<◌, get_or}
use Rattle.least_walks.specs.Ways.{WayData, IsNoWorse}
use Rattle.least_walks.proofs.ways.Ways.has_no_worse.Given as goal

abbrev pub invariant-loop-other : goal.invariant-loop-other
invariant-loop-other l = (k : ℕ) (d : WayData) → k < l.other-index → ¬ IsNoWorse (get_or l.self k d) l.way
