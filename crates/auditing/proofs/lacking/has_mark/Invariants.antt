use Rattle.std.proofs.Common.{◌≡◌, ◌<◌, ℕ, false}
use Rattle.auditing.specs.Lacks.{is_marked}
use Rattle.auditing.proofs.lacking.has_mark.Given as goal

abbrev pub invariant-loop-mark : goal.invariant-loop-mark
invariant-loop-mark l = (t : ℕ) → t < l.mark-index → is_marked l.marks t ≡ false
