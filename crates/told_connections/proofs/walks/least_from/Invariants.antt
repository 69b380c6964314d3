use Rattle.std.proofs.Common.{◌≡◌, ℕ, Some, take}
use Rattle.std.specs.List.{Contains}
use Rattle.timetable.specs.Journeys.{IsLeast, foot}
use Rattle.told_connections.proofs.walks.least_from.Given as goal

-- the least to the stops so far
abbrev pub invariant-loop-to : goal.invariant-loop-to
invariant-loop-to l = IsLeast (λ w. (t : ℕ) × Contains (take l.to-index l.tos) t × (foot l.table l.from t ≡ Some w)) l.least
