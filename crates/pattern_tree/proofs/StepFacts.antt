-- The order of steps, and their indexes among siblings. Crates above cite what is said of the order from here.
use Rattle.std.proofs.Common.{◌≡◌, ℕ, ◌+◌, ◌<◌, ◌≤◌, List, length, get_or, inl, inr, arith, subst}
use Rattle.std.proofs.lemmas.Bool.{cases_lt}
use Rattle.pattern_tree.specs.Forest.{Branch, Forest, none, node, Step, IsBefore, IsBeforeFirst, step_of}
use Rattle.pattern_tree.specs.Siblings.{StepsRise}

pub before_trans : (s t u : Step) → IsBefore s t → IsBefore t u → IsBefore s u
before_trans s t u (inl a) (inl b) = inl (omega arith)
before_trans s t u (inl a) (inr b) = inl (omega (arith, b.0))
before_trans s t u (inr a) (inl b) = inl (omega (arith, a.0))
before_trans s t u (inr a) (inr b) = inr (omega (arith, a.0, b.0), omega (arith, a.1, b.1))

pub before_irreflexive : (s : Step) → IsBefore s s → ⊥
before_irreflexive s (inl a) = absurd (omega (arith, a))
before_irreflexive s (inr a) = absurd (omega (arith, a.1))

-- what comes before a step comes before the siblings after it
pub first_trans : (s t : Step) (f : Forest) → IsBefore s t → IsBeforeFirst t f → IsBeforeFirst s f
first_trans s t none less h = tt
first_trans s t (node b a ends next rest) less h = before_trans s t (b, a) less h

-- those up to the middle come before s if the middle does
pub below_middle : (bs : List Branch) (s : Step) (m : ℕ) → StepsRise bs → m < length bs → ((d : Branch) → IsBefore (step_of (get_or bs m d)) s) → (k : ℕ) (d : Branch) → k < m + 1 → IsBefore (step_of (get_or bs k d)) s
below_middle bs s m rise lt at k d below =
    elim (cases_lt k m) [
      | inl less ↦ before_trans _ _ s (rise k m d less lt) (at d)
      | inr more ↦ let e : m ≡ k = omega arith in subst (λ (i : ℕ). IsBefore (step_of (get_or bs i d)) s) e (at d)
    ]

-- those from the middle on come after s if the middle does
pub above_middle : (bs : List Branch) (s : Step) (m : ℕ) → StepsRise bs → ((d : Branch) → IsBefore s (step_of (get_or bs m d))) → (k : ℕ) (d : Branch) → m ≤ k → k < length bs → IsBefore s (step_of (get_or bs k d))
above_middle bs s m rise at k d below lt =
    elim (cases_lt m k) [
      | inl less ↦ before_trans s _ _ (at d) (rise m k d less lt)
      | inr more ↦ let e : m ≡ k = omega arith in subst (λ (i : ℕ). IsBefore s (step_of (get_or bs i d))) e (at d)
    ]
