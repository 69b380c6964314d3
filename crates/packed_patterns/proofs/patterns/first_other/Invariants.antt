use Rattle.std.proofs.Common.{◌≡◌, ◌<◌, ℕ, get_or}
use Rattle.packed_patterns.specs.declared.packing.Pattern.{Pattern}
use Rattle.packed_patterns.proofs.patterns.first_other.Given as goal

abbrev pub invariant-loop-index : goal.invariant-loop-index
invariant-loop-index l = (k : ℕ) (d : Pattern) → k < l.index → (get_or l.patterns k d).end ≡ l.end
