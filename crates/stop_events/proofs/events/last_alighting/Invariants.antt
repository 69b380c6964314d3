use Rattle.std.proofs.Common.{◌≡◌, ℕ, ◌<◌, ◌≤◌, ◌⊎◌, slice_get, IsSomeAnd, IsTrue}
use Rattle.stop_events.proofs.events.last_alighting.Given as goal

abbrev pub invariant-loop-position : goal.invariant-loop-position
invariant-loop-position l = record {
  within : l.last ≤ l.position;
  alights : (l.last ≡ 0) ⊎ IsSomeAnd (slice_get l.halts l.last) (λ h. IsTrue h.alight);
  last : (k : ℕ) → k < l.position → IsSomeAnd (slice_get l.halts k) (λ h. IsTrue h.alight) → k ≤ l.last;
}
