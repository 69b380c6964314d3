-- Where an addition goes, by index.
use Rattle.std.proofs.Common.{◌≡◌, ℕ, zero, suc, ◌<◌, ◌≤◌, ◌⊎◌, true, false, List, [], ◌∷◌, length, get_or, set, inl, inr, arith, sym, ap, subst, refl, ◌∙◌}
use Rattle.std.specs.List.{insert}
use Rattle.std.proofs.lemmas.Bool.{cases_order, lt-ltb, le-ltb, eq-eqb, ne_eqb}
use Rattle.pattern_tree.specs.Forest.{Branch, Forest, forest, Step, IsBefore, Rises, step_of}
use Rattle.pattern_tree.specs.Added.{chain_of, with_end, is_before, cons, with_pair}
use Rattle.pattern_tree.specs.Siblings.{StepsRise, IsStepAt, IsGapAt}
use Rattle.pattern_tree.proofs.PairFacts.{rises_from as rises_first, rises_tail as rises_rest}

-- one node with the pair of q and e from it on
abbrev pub with_pair_from : List Step → ℕ → Branch → Branch
with_pair_from [] e b = record { board = b.board; alight = b.alight; ends = with_end e b.ends; next = b.next }
with_pair_from (t ∷ q) e b = record { board = b.board; alight = b.alight; ends = b.ends; next = with_pair t q e b.next }

pub before_true : (s t : Step) → IsBefore s t → is_before s t ≡ true
before_true s t (inl a) = rw (lt-ltb s.0 t.0 a)
before_true s t (inr a) = rw (le-ltb s.0 t.0 (omega (arith, a.0)), eq-eqb s.0 t.0 a.0, lt-ltb s.1 t.1 a.1)

pub before_false : (s t : Step) → IsBefore s t → is_before t s ≡ false
before_false s t (inl a) = rw (le-ltb t.0 s.0 (omega (arith, a)), ne_eqb t.0 s.0 (omega (arith, a)))
before_false s t (inr a) = rw (le-ltb t.0 s.0 (omega (arith, a.0)), eq-eqb t.0 s.0 (sym a.0), le-ltb t.1 s.1 (omega (arith, a.1)))

pub before_self : (s : Step) → is_before s s ≡ false
before_self s = rw (le-ltb s.0 s.0 (omega arith), eq-eqb s.0 s.0 refl, le-ltb s.1 s.1 (omega arith))

-- the three ways in which s can stand beside t
pub compared : (s t : Step) → IsBefore s t ⊎ (IsBefore t s ⊎ (s ≡ t))
compared s t =
    elim (cases_order s.0 t.0) [
      | inr (inl less) ↦ inl (inl less)
      | inr (inr more) ↦ inr (inl (inl more))
      | inl same ↦ elim (cases_order s.1 t.1) [
        | inr (inl less) ↦ inl (inr (same, less))
        | inr (inr more) ↦ inr (inl (inr (sym same, more)))
        | inl equal ↦ inr (inr (ap (λ (x : ℕ). (x, s.1)) same ∙ ap (λ (y : ℕ). (t.0, y)) equal))
      ]
    ]

-- an addition beside a first node, by how they compare
pub added_first : (s : Step) (q : List Step) (e : ℕ) (b : Branch) (f : Forest) → IsBefore s (step_of b) → with_pair s q e (cons b f) ≡ cons (chain_of s q e) (cons b f)
added_first s [] e b f h = rw (before_true s (step_of b) h)
added_first s (t ∷ q) e b f h = rw (before_true s (step_of b) h)

pub added_later : (s : Step) (q : List Step) (e : ℕ) (b : Branch) (f : Forest) → IsBefore (step_of b) s → with_pair s q e (cons b f) ≡ cons b (with_pair s q e f)
added_later s [] e b f h = rw (before_false (step_of b) s h, before_true (step_of b) s h)
added_later s (t ∷ q) e b f h = rw (before_false (step_of b) s h, before_true (step_of b) s h)

pub added_here : (s : Step) (q : List Step) (e : ℕ) (b : Branch) (f : Forest) → s ≡ step_of b → with_pair s q e (cons b f) ≡ cons (with_pair_from q e b) f
added_here s [] e b f h = rw h (rw (before_self (step_of b)))
added_here s (t ∷ q) e b f h = rw h (rw (before_self (step_of b)))

pub added_gap : (bs : List Branch) (s : Step) (q : List Step) (e i : ℕ) → IsGapAt bs s i → with_pair s q e (forest bs) ≡ forest (insert bs i (chain_of s q e))
added_gap [] s q e zero gap = refl
added_gap [] s q e (suc i) gap = absurd (omega (arith, gap.0))
added_gap (b ∷ bs) s q e zero gap = added_first s q e b (forest bs) (gap.2 0 b (omega arith) (omega arith))
added_gap (b ∷ bs) s q e (suc i) gap =
    added_later s q e b (forest bs) (gap.1 0 b (omega arith))
    ∙ ap (cons b) (added_gap bs s q e i (omega (arith, gap.0), (λ k d lt. gap.1 (suc k) d (omega (arith, lt))), (λ k d le lt. gap.2 (suc k) d (omega (arith, le)) (omega (arith, lt)))))

pub added_at : (bs : List Branch) (s : Step) (q : List Step) (e i : ℕ) (d : Branch) → StepsRise bs → IsStepAt bs s i → with_pair s q e (forest bs) ≡ forest (set bs i (with_pair_from q e (get_or bs i d)))
added_at [] s q e i d rise at = absurd (omega (arith, at.0))
added_at (b ∷ bs) s q e zero d rise at = added_here s q e b (forest bs) (sym (at.1 b))
added_at (b ∷ bs) s q e (suc i) d rise at =
    let less : IsBefore (step_of b) s = subst (λ (t : Step). IsBefore (step_of b) t) (at.1 b) (rise 0 (suc i) b (omega arith) at.0) in
    added_later s q e b (forest bs) less
    ∙ ap (cons b) (added_at bs s q e i d (λ j k x lt in_range. rise (suc j) (suc k) x (omega (arith, lt)) (omega (arith, in_range))) (omega (arith, at.0), at.1))

pub with_end_present : (xs : List ℕ) (e k : ℕ) → ((i j : ℕ) → i ≤ j → j < length xs → get_or xs i 0 ≤ get_or xs j 0) → Rises xs → k < length xs → get_or xs k 0 ≡ e → with_end e xs ≡ xs
with_end_present [] e k up rise lt is = absurd (omega (arith, lt))
with_end_present (x ∷ xs) e zero up rise lt is = rw (le-ltb e x (omega (arith, is)), le-ltb x e (omega (arith, is)))
with_end_present (x ∷ xs) e (suc k) up rise lt is =
    let less : x < e = omega (arith, rises_first x xs rise k (omega (arith, lt)), is) in
    rw (le-ltb e x (omega arith), lt-ltb x e less) (ap (λ (ys : List ℕ). x ∷ ys) (with_end_present xs e k (λ i j le in_range. up (suc i) (suc j) (omega (arith, le)) (omega (arith, in_range))) (rises_rest x xs rise) (omega (arith, lt)) is))

pub with_end_gap : (xs : List ℕ) (e i : ℕ) → (i ≤ length xs) × ((k : ℕ) → k < i → get_or xs k 0 < e) × ((k : ℕ) → i ≤ k → k < length xs → e < get_or xs k 0) → with_end e xs ≡ insert xs i e
with_end_gap [] e zero gap = refl
with_end_gap [] e (suc i) gap = absurd (omega (arith, gap.0))
with_end_gap (x ∷ xs) e zero gap = rw (lt-ltb e x (gap.2 0 (omega arith) (omega arith)))
with_end_gap (x ∷ xs) e (suc i) gap =
    let less : x < e = gap.1 0 (omega arith) in
    rw (le-ltb e x (omega arith), lt-ltb x e less) (ap (λ (ys : List ℕ). x ∷ ys) (with_end_gap xs e i (omega (arith, gap.0), (λ k lt. gap.1 (suc k) (omega (arith, lt))), (λ k le lt. gap.2 (suc k) (omega (arith, le)) (omega (arith, lt))))))
