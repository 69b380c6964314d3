use Rattle.std.proofs.Common.{◌≡◌}
use Rattle.stop_parts.specs.Parts.{whole}
use Rattle.precomputing.specs.Missing.{missing_of}
use Rattle.store_merging.proofs.counting.lacking.Given as goal

abbrev pub invariant-loop-number : goal.invariant-loop-number
invariant-loop-number g l = l.lacking.items ≡ missing_of whole l.number l.store.stored
