use Rattle.std.proofs.Common.{◌≡◌, ℕ, ◌<◌, ◌≤◌}
use Rattle.rounds.specs.Layers.{IsSettled, round_at}
use Rattle.rounds.proofs.scratch.settle_rounds.Given as goal

abbrev pub invariant-loop-round : goal.invariant-loop-round
invariant-loop-round l = record {
  settled : (r : ℕ) → r < l.round-index → IsSettled (round_at l.fn.rounds r) (round_at l.rounds r);
  rest : (r : ℕ) → l.round-index ≤ r → round_at l.rounds r ≡ round_at l.fn.rounds r;
}
