-- Each pair of a forest stands there once.
use Rattle.std.proofs.Common.{◌≡◌, ℕ, ◌+◌, List, [], ◌∷◌, ◌++◌, length, map, inl, inr, arith, sym, ap, subst, refl, ◌∙◌}
use Rattle.std.specs.List.{AllPairs}
use Rattle.std.proofs.lemmas.List.Kept.{AllPairs-cons}
use Rattle.std.proofs.lemmas.List.Elements.{All-from_get_or}
use Rattle.pattern_tree.specs.Forest.{Forest, none, node, Step, Pair, pairs, IsBefore, IsBeforeFirst, IsOrdered, Rises}
use Rattle.pattern_tree.specs.Paths.{Has, IsIn}
use Rattle.pattern_tree.proofs.StepFacts.{first_trans, before_irreflexive}
use Rattle.pattern_tree.proofs.PairFacts.{under, ending, in_append, map_in, in_index, contains_in, rises_from, rises_tail, in_has, pair_is, nonempty, tail_steps}

abbrev Distinct : {X : Type 0} → List X → Type 0
Distinct [] = Unit {0}
Distinct (x ∷ xs) = (IsIn x xs → ⊥) × Distinct xs

distinct_append : {X : Type 0} (xs ys : List X) → Distinct xs → Distinct ys → ((x : X) → IsIn x xs → IsIn x ys → ⊥) → Distinct (xs ++ ys)
distinct_append [] ys h k apart = k
distinct_append (x ∷ xs) ys h k apart =
    (λ i. elim (in_append x xs ys i) [ inl m ↦ h.0 m | inr m ↦ apart x (inl refl) m ], distinct_append xs ys h.1 k (λ z m n. apart z (inr m) n))

distinct_map : {X Y : Type 0} (f : X → Y) (xs : List X) → ((x y : X) → f x ≡ f y → x ≡ y) → Distinct xs → Distinct (map f xs)
distinct_map f [] one h = tt
distinct_map {X} f (x ∷ xs) one h =
    (λ i. let w = map_in f (f x) xs i in h.0 (subst (λ (z : X). IsIn z xs) (sym (one x w.0 w.1)) w.2), distinct_map f xs one h.1)

distinct_rises : (xs : List ℕ) → Rises xs → Distinct xs
distinct_rises [] r = tt
distinct_rises (x ∷ xs) r =
    (λ i. let w = in_index x xs i in let less = rises_from x xs r w.0 w.1 in omega (arith, less, w.2), distinct_rises xs (rises_tail x xs r))

-- a step before all siblings begins no path
first_has_not : (s : Step) (q : List Step) (e : ℕ) (f : Forest) → IsBeforeFirst s f → IsOrdered f → Has (s ∷ q) e f → ⊥
first_has_not s q e none h o has = absurd has
first_has_not s [] e (node b a ends next rest) h o (inl has) = before_irreflexive s (subst (λ (t : Step). IsBefore s t) (sym has.0) h)
first_has_not s [] e (node b a ends next rest) h o (inr has) = first_has_not s [] e rest (first_trans s (b, a) rest h o.3) o.4 has
first_has_not s (t ∷ q) e (node b a ends next rest) h o (inl has) = before_irreflexive s (subst (λ (u : Step). IsBefore s u) (sym has.0) h)
first_has_not s (t ∷ q) e (node b a ends next rest) h o (inr has) = first_has_not s (t ∷ q) e rest (first_trans s (b, a) rest h o.3) o.4 has

rest_has_not : (s : Step) (p : Pair) (f : Forest) → IsBeforeFirst s f → IsOrdered f → IsIn (under s p) (pairs f) → ⊥
rest_has_not s p f h o i = first_has_not s p.0 p.1 f h o (in_has (s ∷ p.0) p.1 f i)

under_one : (s : Step) (p q : Pair) → under s p ≡ under s q → p ≡ q
under_one s p q is = pair_is p q.0 q.1 (ap (λ (x : Pair). tail_steps x.0) is) (ap (λ (x : Pair). x.1) is)

distinct_pairs : (f : Forest) → IsOrdered f → Distinct (pairs f)
distinct_pairs none o = tt
distinct_pairs (node b a ends next rest) o =
    distinct_append (map (ending (b, a)) ends) (map (under (b, a)) (pairs next) ++ pairs rest)
    (distinct_map (ending (b, a)) ends (λ x y is. ap (λ (p : Pair). p.1) is) (distinct_rises ends o.0))
    (distinct_append (map (under (b, a)) (pairs next)) (pairs rest)
    (distinct_map (under (b, a)) (pairs next) (under_one (b, a)) (distinct_pairs next o.2))
    (distinct_pairs rest o.4)
    (λ p i k. let w = map_in (under (b, a)) p (pairs next) i in rest_has_not (b, a) w.0 rest o.3 o.4 (subst (λ (x : Pair). IsIn x (pairs rest)) w.1 k)))
    (λ p i k.
    let w = map_in (ending (b, a)) p ends i in
    elim (in_append p (map (under (b, a)) (pairs next)) (pairs rest) k) [
      | inl m ↦
          let v = map_in (under (b, a)) p (pairs next) m in
          let some = nonempty v.0.0 v.0.1 next v.2 in
          let one : length p.0 ≡ 1 = ap (λ (x : Pair). length x.0) w.1 in
          let more : length p.0 ≡ length v.0.0 + 1 = ap (λ (x : Pair). length x.0) v.1 ∙ omega arith in
          omega (arith, some, one, more)
      | inr m ↦ rest_has_not (b, a) ([], w.0) rest o.3 o.4 (subst (λ (x : Pair). IsIn x (pairs rest)) w.1 m)
    ])

apart : (xs : List Pair) → Distinct xs → AllPairs (λ p q. p ≡ q → ⊥) xs
apart [] h = λ i j d less lt. absurd (omega (arith, lt))
apart (x ∷ xs) h =
    AllPairs-cons (λ p q. p ≡ q → ⊥) x xs (All-from_get_or (λ q. x ≡ q → ⊥) xs x (λ i lt is. h.0 (contains_in x xs (i, lt, sym is)))) (apart xs h.1)

pub pairs_differ : (f : Forest) → IsOrdered f → AllPairs (λ p q. p ≡ q → ⊥) (pairs f)
pairs_differ f o = apart (pairs f) (distinct_pairs f o)

-- the same of a list that is its pairs
pub once_as : (f : Forest) (ps : List Pair) → IsOrdered f → pairs f ≡ ps → AllPairs (λ p q. p ≡ q → ⊥) ps
once_as f ps o seen = subst (λ (xs : List Pair). AllPairs (λ p q. p ≡ q → ⊥) xs) seen (pairs_differ f o)
