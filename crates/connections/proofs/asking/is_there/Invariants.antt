use Rattle.std.proofs.Common.{ℕ, ◌<◌, length, get_or}
use Rattle.pattern_query.specs.Answer.{PointData}
use Rattle.connections.specs.Found.{IsNoWorse}
use Rattle.connections.proofs.asking.is_there.Given as goal

abbrev pub invariant-loop-point : goal.invariant-loop-point
invariant-loop-point l = (i : ℕ) (d : PointData) → i < l.point-index → i < length l.next → IsNoWorse (get_or l.next i d) l.journey → ⊥
