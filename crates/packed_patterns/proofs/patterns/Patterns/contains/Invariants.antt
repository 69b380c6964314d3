use Rattle.std.proofs.Common.{◌≢◌, ◌<◌, ℕ, slice_index_or}
use Rattle.packed_patterns.specs.Patterns.{path_of}
use Rattle.packed_patterns.specs.declared.packing.Pattern.{Pattern}
use Rattle.packed_patterns.proofs.patterns.Patterns.contains.Given as goal

abbrev pub invariant-loop-pattern : goal.invariant-loop-pattern
invariant-loop-pattern g l = (i : ℕ) (d : Pattern) → i < l.pattern-index → path_of l.ending.beginnings.now (slice_index_or l.pattern-items i d) ≢ l.path
