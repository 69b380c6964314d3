use Rattle.std.proofs.Common.{◌≡◌, ℕ, ◌<◌, get_or}
use Rattle.pattern_query.specs.Answer.{PointData, numbers}
use Rattle.scanned_journeys.proofs.latest.with_numbers.Given as goal

abbrev pub invariant-loop-journey : goal.invariant-loop-journey
invariant-loop-journey l = (i : ℕ) (q : PointData) → i < l.journey-index → ¬ (numbers (get_or l.journeys i q) ≡ numbers l.point)
