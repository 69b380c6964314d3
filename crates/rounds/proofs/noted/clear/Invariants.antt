use Rattle.std.proofs.Common.{◌≡◌, ◌⊎◌, ℕ, get_or}
use Rattle.rounds.specs.Noted.{no_position}
use Rattle.stop_labels.proofs.Listed.{SeenIn}
use Rattle.rounds.proofs.noted.clear.Given as goal

abbrev pub invariant-loop-line : goal.invariant-loop-line
invariant-loop-line l = (k : ℕ) → (get_or l.earliest k 0 ≡ no_position) ⊎ (¬ SeenIn l.listed l.line-index k × (get_or l.earliest k 0 ≡ get_or l.fn.earliest k 0))
