use Rattle.std.proofs.Common.{ℕ, IfOk, subst, sym}
use Rattle.auditing.specs.Comparing.{IsFirstStop}
use Rattle.auditing.specs.Lacks.{AgreeUnmarked}
use Rattle.auditing.proofs.auditing.first_at.Goals as goal

pub returns-clause-first : goal.returns-clause-first
returns-clause-first c = λ unmarked.
    let table = c.args.network.now in
    let tree = c.args.patterns.now in
    subst (λ (k : ℕ). IfOk c.first_stop.result (IsFirstStop table tree k c.args.depart)) c.rides-rides.ensures
    (c.first_stop.ensures.first (subst (λ (k : ℕ). AgreeUnmarked table tree k c.args.marks.now) (sym c.rides-rides.ensures) unmarked))
