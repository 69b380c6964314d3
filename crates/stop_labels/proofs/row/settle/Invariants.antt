use Rattle.std.proofs.Common.{◌≡◌, ◌⊎◌, ℕ}
use Rattle.stop_labels.specs.Mark.{at, arrival_of}
use Rattle.stop_labels.specs.Row.{when}
use Rattle.stop_labels.proofs.Listed.{SeenIn}
use Rattle.stop_labels.proofs.row.settle.Given as goal

abbrev pub invariant-loop-stop : goal.invariant-loop-stop
invariant-loop-stop l = (p : ℕ) → (when l.settled p ≡ arrival_of (at l.labels p)) ⊎ (¬ SeenIn l.listed l.stop-index p × (when l.settled p ≡ when l.fn.settled p))
