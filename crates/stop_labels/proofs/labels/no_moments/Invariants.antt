use Rattle.std.proofs.Common.{◌≡◌, ℕ, Option, None, replicate}
use Rattle.stop_labels.proofs.labels.no_moments.Given as goal

abbrev pub invariant-loop : goal.invariant-loop
invariant-loop l = l.moments.items ≡ replicate {A = Option ℕ} l.counter None
