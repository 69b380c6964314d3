use Rattle.std.proofs.Common.{◌≡◌, []}
use Rattle.precomputing.specs.Missing.{missing_of}
use Rattle.precomputing.proofs.missing.has_each.Given as goal

abbrev pub invariant-loop-number : goal.invariant-loop-number
invariant-loop-number g l = missing_of l.part l.number l.desk.stored ≡ []
