-- The steps of a search that begins with a guess.
use Rattle.std.proofs.Common.{Option, Some, None, ◌≡◌, ℕ, ◌-◌, ◌<◌, ◌≤◌, ◌⊎◌, inl, inr, List, length, get_or, leb, arith, refl, sym, ◌∙◌, ap, subst, le_trans, leb-true, true≢false, eq-or-lt_of_le}
use Rattle.std.specs.List.{AllPairs, position as first_index}
use Rattle.std.proofs.lemmas.Bool.{le-leb, cases_lt}
use Rattle.std.proofs.lemmas.List.Quantifiers.{position-Some}
use Rattle.lines.specs.declared.line.Times.{Times}
use Rattle.lines.specs.Lines.{AreNoLater}
use Rattle.stop_events.proofs.MemberFacts.{none_passes}

-- an instance in time, if the one before it isn't, is the first in time
pub first_is : (times : List Times) (ready k : ℕ) (d : Times) → AllPairs AreNoLater times → k < length times → ready ≤ (get_or times k d).departure
    → (k ≡ 0) ⊎ ((get_or times (k - 1) d).departure < ready) → first_index (λ (t : Times). leb ready t.departure) times ≡ Some k
first_is times ready k d rising within late before = go (first_index (λ (t : Times). leb ready t.departure) times) refl where
  go : (o : Option ℕ) → first_index (λ (t : Times). leb ready t.departure) times ≡ o → o ≡ Some k
  go None is = absurd (true≢false (sym (le-leb ready (get_or times k d).departure late) ∙ none_passes (λ (t : Times). leb ready t.departure) times k d is within))
  go (Some f) is =
      let found = position-Some (λ (t : Times). leb ready t.departure) times f d is in
      let departs = leb-true ready (get_or times f d).departure found.1 in
      elim (cases_lt k f) [
        | inl past ↦ absurd (true≢false (sym (le-leb ready (get_or times k d).departure late) ∙ found.2 k past))
        | inr low ↦ elim (eq-or-lt_of_le low) [
          | inl e ↦ ap Some e
          | inr lt ↦ absurd (elim before [
            | inl none ↦ (let z : ⊥ = omega (arith, lt, none) in z)
            | inr early ↦
                let reached : ready ≤ (get_or times (k - 1) d).departure = elim (eq-or-lt_of_le (let h : f ≤ k - 1 = omega (arith, lt) in h)) [
                  | inl same ↦ subst (λ x. ready ≤ (get_or times x d).departure) same departs
                  | inr less ↦ le_trans departs (rising f (k - 1) d less (let h : k - 1 < length times = omega (arith, within) in h)).1
                ] in
                (let z : ⊥ = omega (arith, reached, early) in z)
          ])
        ]
      ]
