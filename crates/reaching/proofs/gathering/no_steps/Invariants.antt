use Rattle.std.proofs.Common.{◌≡◌, ℕ, [], length}
use Rattle.reaching.specs.Steps.{steps_at}
use Rattle.reaching.proofs.gathering.no_steps.Given as goal

abbrev pub invariant-loop : goal.invariant-loop
invariant-loop l = record {
  count : length l.all.items ≡ l.counter;
  none : (t : ℕ) → steps_at l.all.items t ≡ [];
}
