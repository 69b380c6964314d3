use Rattle.std.proofs.Common.{ℕ, ◌<◌}
use Rattle.auditing.specs.Audits.{Agrees}
use Rattle.auditing.specs.Lacks.{AgreeUnmarked}
use Rattle.auditing.proofs.comparing.first_stop.Given as goal

abbrev pub invariant-loop-number : goal.invariant-loop-number
invariant-loop-number l = AgreeUnmarked l.network l.patterns l.rides l.marks
    → (t : ℕ) → t < l.number → Agrees l.network l.patterns l.rides l.depart t
