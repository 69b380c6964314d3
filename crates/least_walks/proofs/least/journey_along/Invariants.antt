use Rattle.std.proofs.Common.{◌≡◌, ℕ, ◌<◌, get_or}
use Rattle.pattern_query.specs.Answer.{PointData, numbers}
use Rattle.least_walks.proofs.least.journey_along.Given as goal

abbrev pub invariant-loop-journey : goal.invariant-loop-journey
invariant-loop-journey l = (i : ℕ) (q : PointData) → i < l.journey-index → ¬ (numbers (get_or l.journey-items i q) ≡ numbers l.point)
