use Rattle.std.proofs.Common.{◌≡◌, ◌++◌, map, take}
use Rattle.packed_patterns.specs.Patterns.{ending}
use Rattle.packed_patterns.proofs.packing.pack_ends.Given as goal

abbrev pub invariant-loop-end : goal.invariant-loop-end
invariant-loop-end g l = l.patterns.items ≡ l.fn.patterns.items ++ map (ending l.last) (take l.end-index l.ends)
