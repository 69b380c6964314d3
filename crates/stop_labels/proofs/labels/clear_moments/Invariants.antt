use Rattle.std.proofs.Common.{◌≡◌, ℕ, ◌<◌, None}
use Rattle.stop_labels.specs.Row.{when}
use Rattle.stop_labels.proofs.labels.clear_moments.Given as goal

abbrev pub invariant-loop-moment : goal.invariant-loop-moment
invariant-loop-moment l = (k : ℕ) → k < l.moment-index → when l.moments k ≡ None
