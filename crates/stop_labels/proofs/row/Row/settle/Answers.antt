use Rattle.std.proofs.Common.{◌≡◌, ◌⊎◌, ℕ, Option, List, length, arith, sym, ◌∙◌, ap, subst, inl, inr}
use Rattle.std.specs.List.{Contains}
use Rattle.stop_labels.specs.Mark.{Mark, at, arrival_of}
use Rattle.stop_labels.specs.Row.{IsRow, when}
use Rattle.stop_labels.proofs.Listed.{whole_of}
use Rattle.stop_labels.proofs.RowSteps.{listed_within, settled_row}
use Rattle.stop_labels.proofs.row.Row.settle.Goals as goal

pub settle-requires-clause-known : goal.settle-requires-clause-known
settle-requires-clause-known c = λ p has.
    let i = c.self.inside in
    listed_within i.labels i.settled.items i.lowered.items _ c.self.invariant p (subst (λ (xs : List ℕ). Contains xs p) c.deref.ensures.value has)

-- what was listed is settled, and the others were
all_settled : (marks : List (Option Mark)) (was now : List (Option ℕ)) (lowered listed : List ℕ) (capacity : ℕ) (old : List (Option ℕ)) → IsRow marks was lowered capacity
    → listed ≡ lowered → old ≡ was
    → ((p : ℕ) → (when now p ≡ arrival_of (at marks p)) ⊎ (¬ Contains listed p × (when now p ≡ when old p)))
    → (p : ℕ) → when now p ≡ arrival_of (at marks p)
all_settled marks was now lowered listed capacity old is f g each p = elim (each p) [
  | inl done ↦ done
  | inr rest ↦ elim (is.others p) [
    | inl has ↦ absurd (rest.0 (subst (λ (xs : List ℕ). Contains xs p) (sym f) has))
    | inr same ↦ rest.1 ∙ (ap (λ (ms : List (Option ℕ)). when ms p) g ∙ sym same)
  ]
]

pub invariant_of-self : goal.invariant_of-self
invariant_of-self c =
    let i = c.self.inside in
    let size = length {A = Option ℕ} in
    let w = whole_of i.settled.len c.settle.new.settled i.settled.items c.deref_mut.result.now c.deref_mut.ensures.value c.deref_mut.ensures.len c.settle.auto.settled in
    let is = c.self.invariant in
    let fits = is.room in
    let same = c.clear.ensures.capacity in
    settled_row i.labels _ _ _ c.clear.ensures.items
    (ap size w ∙ (c.settle.auto.settled ∙ (ap size c.deref_mut.ensures.value ∙ is.size))) (omega (arith, fits, same))
    (λ p. sym (ap (λ (ms : List (Option ℕ)). when ms p) w
    ∙ all_settled i.labels i.settled.items c.settle.new.settled i.lowered.items c.deref.result.now _ c.deref_mut.result.now is c.deref.ensures.value c.deref_mut.ensures.value c.settle.ensures p))
