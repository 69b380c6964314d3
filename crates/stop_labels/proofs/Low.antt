-- What lowering one mark does.
use Rattle.std.proofs.Common.{Option, ◌≡◌, ℕ, ◌<◌, ◌≤◌, ◌⊎◌, Bool, true, false, cond, List, length, Some, None, arith, refl, sym, ◌∙◌, subst, inl, inr, slice_set, leb-true, leb-false, le_refl, le_trans}
use Rattle.std.proofs.lemmas.List.{get_or-set_same, get_or-set_other, get_or_past}
use Rattle.std.proofs.lemmas.Bool.{cases_eq, cases_lt}
use Rattle.stop_labels.specs.Mark.{Mark, at, By, is_by, lowered}

pub by_later : (mark : Option Mark) (a b : ℕ) → By mark a → a ≤ b → By mark b
by_later None a b h le = absurd h
by_later (Some m) a b h le = le_trans h le

by_true : (mark : Option Mark) (a : ℕ) → is_by mark a ≡ true → By mark a
by_true None a e = absurd (no e) where
  no : false ≡ true → ⊥
  no e = cc
by_true (Some m) a e = leb-true m.arrival a e

by_false : (mark : Option Mark) (a b : ℕ) → is_by mark a ≡ false → By mark b → a ≤ b
by_false None a b e h = absurd h
by_false (Some m) a b e h = let k = leb-false m.arrival a e in omega arith

-- each mark is as it was, or is the new one at its stop
pub lowered_cases : (marks : List (Option Mark)) (i : ℕ) (mark : Mark) (p : ℕ) → i < length marks
    → (at (lowered marks i mark) p ≡ at marks p) ⊎ ((p ≡ i) × (at (lowered marks i mark) p ≡ Some mark))
lowered_cases marks i mark p in' = go (is_by (at marks i) mark.arrival) where
  go : (b : Bool) → (at (cond b marks (slice_set marks i (Some mark))) p ≡ at marks p) ⊎ ((p ≡ i) × (at (cond b marks (slice_set marks i (Some mark))) p ≡ Some mark))
  go true = inl refl
  go false = elim (cases_eq p i) [
    | inl e ↦ inr (e, subst (λ k. at (slice_set marks i (Some mark)) k ≡ Some mark) (sym e) (get_or-set_same marks i (Some mark) None in'))
    | inr ne ↦ inl (get_or-set_other marks i p (Some mark) None ne)
  ]

-- no mark grows later
pub lowered_kept : (marks : List (Option Mark)) (i : ℕ) (mark : Mark) (p a : ℕ) → i < length marks → By (at marks p) a → By (at (lowered marks i mark) p) a
lowered_kept marks i mark p a in' h = go (is_by (at marks i) mark.arrival) refl where
  go : (b : Bool) → is_by (at marks i) mark.arrival ≡ b → By (at (cond b marks (slice_set marks i (Some mark))) p) a
  go true e = h
  go false e = elim (cases_eq p i) [
    | inl s ↦ subst (λ o. By o a) (sym (subst (λ k. at (slice_set marks i (Some mark)) k ≡ Some mark) (sym s) (get_or-set_same marks i (Some mark) None in')))
        (by_false (at marks i) mark.arrival a e (subst (λ k. By (at marks k) a) s h))
    | inr ne ↦ subst (λ o. By o a) (sym (get_or-set_other marks i p (Some mark) None ne)) h
  ]

-- the new one counts
pub lowered_by : (marks : List (Option Mark)) (i : ℕ) (mark : Mark) → i < length marks → By (at (lowered marks i mark) i) mark.arrival
lowered_by marks i mark in' = go (is_by (at marks i) mark.arrival) refl where
  go : (b : Bool) → is_by (at marks i) mark.arrival ≡ b → By (at (cond b marks (slice_set marks i (Some mark))) i) mark.arrival
  go true e = by_true (at marks i) mark.arrival e
  go false e = subst (λ o. By o mark.arrival) (sym (get_or-set_same marks i (Some mark) None in')) (le_refl mark.arrival)

pub at_within : (marks : List (Option Mark)) (p : ℕ) (m : Mark) → at marks p ≡ Some m → p < length marks
at_within marks p m e = elim (cases_lt p (length marks)) [
  | inl lt ↦ lt
  | inr le ↦ absurd (none_some m (sym (get_or_past marks p None le) ∙ e))
] where
  none_some : (m : Mark) → None ≡ Some m → ⊥
  none_some m e = cc
