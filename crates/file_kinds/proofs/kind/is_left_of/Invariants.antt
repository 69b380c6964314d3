use Rattle.std.proofs.Common.{◌≡◌, ◌⊎◌, ◌<◌, ℕ, get_or}
use Rattle.file_kinds.proofs.kind.is_left_of.Given as goal

-- each byte so far is its own or 00
abbrev pub invariant-loop-i : goal.invariant-loop-i
invariant-loop-i l = (k : ℕ) → k < l.i → (get_or l.left k 0 ≡ 0) ⊎ (get_or l.left k 0 ≡ get_or l.whole k 0)
