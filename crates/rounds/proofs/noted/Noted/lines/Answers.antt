use Rattle.std.proofs.Common.{ℕ, ◌<◌, List, length, subst}
use Rattle.std.specs.List.{Contains}
use Rattle.rounds.proofs.noted.Noted.lines.Goals as goal

pub returns-clause-within : goal.returns-clause-within
returns-clause-within c = λ l has.
    subst (λ (xs : List ℕ). l < length xs) c.self.view_is (c.self.invariant.within l (subst (λ (xs : List ℕ). Contains xs l) c.deref.ensures.value has))
