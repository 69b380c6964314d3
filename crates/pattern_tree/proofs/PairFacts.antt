-- Has says which pairs a forest has.
use Rattle.std.proofs.Common.{◌≡◌, ℕ, ◌⊎◌, List, [], ◌∷◌, ◌++◌, map, inl, inr, sym, ap, subst, refl, ◌∙◌}
use Rattle.std.proofs.Common.{zero, suc, ◌<◌, ◌≤◌, length, get_or, arith, rules, ◌↔◌, IsTrue, Result, Ok, Err, MatchResult}
use Rattle.std.specs.Prelude.{is_ok}
use Rattle.std.specs.List.{Contains}
use Rattle.std.proofs.lemmas.Bool.{cases_lt}
use Rattle.pattern_tree.specs.Forest.{Rises, Forest, none, node, Step, Pair, pairs}
use Rattle.pattern_tree.specs.Paths.{Has, IsIn}

pub in_left : {X : Type 0} (x : X) (xs ys : List X) → IsIn x xs → IsIn x (xs ++ ys)
in_left x [] ys h = absurd h
in_left x (y ∷ xs) ys (inl is) = inl is
in_left x (y ∷ xs) ys (inr h) = inr (in_left x xs ys h)

pub in_right : {X : Type 0} (x : X) (xs ys : List X) → IsIn x ys → IsIn x (xs ++ ys)
in_right x [] ys h = h
in_right x (y ∷ xs) ys h = inr (in_right x xs ys h)

pub in_append : {X : Type 0} (x : X) (xs ys : List X) → IsIn x (xs ++ ys) → IsIn x xs ⊎ IsIn x ys
in_append x [] ys h = inr h
in_append x (y ∷ xs) ys (inl is) = inl (inl is)
in_append x (y ∷ xs) ys (inr h) = elim (in_append x xs ys h) [ inl k ↦ inl (inr k) | inr k ↦ inr k ]

pub in_map : {X Y : Type 0} (f : X → Y) (x : X) (xs : List X) → IsIn x xs → IsIn (f x) (map f xs)
in_map f x [] h = absurd h
in_map f x (y ∷ xs) (inl is) = inl (ap f is)
in_map f x (y ∷ xs) (inr h) = inr (in_map f x xs h)

pub map_in : {X Y : Type 0} (f : X → Y) (y : Y) (xs : List X) → IsIn y (map f xs) → (x : X) × (y ≡ f x) × IsIn x xs
map_in f y [] h = absurd h
map_in f y (z ∷ xs) (inl is) = (z, is, inl refl)
map_in f y (z ∷ xs) (inr h) = let w = map_in f y xs h in (w.0, w.1, inr w.2)

-- what stands after a node's step
abbrev pub under : Step → Pair → Pair
under s p = (s ∷ p.0, p.1)

abbrev pub ending : Step → ℕ → Pair
ending s e = (s ∷ [], e)

pub has_in : (q : List Step) (e : ℕ) (f : Forest) → Has q e f → IsIn (q, e) (pairs f)
has_in [] e f h = absurd h
has_in (s ∷ q) e none h = absurd h
has_in (s ∷ []) e (node b a ends next rest) (inl h) =
    let k = in_map (ending (b, a)) e ends h.1 in
    in_left _ (map (ending (b, a)) ends) _ (subst (λ (t : Step). IsIn (t ∷ [], e) (map (ending (b, a)) ends)) (sym h.0) k)
has_in (s ∷ []) e (node b a ends next rest) (inr h) =
    in_right _ (map (ending (b, a)) ends) _ (in_right _ (map (under (b, a)) (pairs next)) _ (has_in (s ∷ []) e rest h))
has_in (s ∷ t ∷ q) e (node b a ends next rest) (inl h) =
    let k = in_map (under (b, a)) _ (pairs next) (has_in (t ∷ q) e next h.1) in
    in_right _ (map (ending (b, a)) ends) _ (in_left _ (map (under (b, a)) (pairs next)) _ (subst (λ (u : Step). IsIn (u ∷ t ∷ q, e) (map (under (b, a)) (pairs next))) (sym h.0) k))
has_in (s ∷ t ∷ q) e (node b a ends next rest) (inr h) =
    in_right _ (map (ending (b, a)) ends) _ (in_right _ (map (under (b, a)) (pairs next)) _ (has_in (s ∷ t ∷ q) e rest h))

pub in_index : (x : ℕ) (xs : List ℕ) → IsIn x xs → (k : ℕ) × (k < length xs) × (get_or xs k 0 ≡ x)
in_index x [] h = absurd h
in_index x (y ∷ xs) (inl is) = (0, omega arith, sym is)
in_index x (y ∷ xs) (inr h) = let w = in_index x xs h in (suc w.0, omega (arith, w.1), w.2)

pub index_in : (x : ℕ) (xs : List ℕ) (k : ℕ) → k < length xs → get_or xs k 0 ≡ x → IsIn x xs
index_in x [] k lt is = absurd (omega (arith, lt))
index_in x (y ∷ xs) zero lt is = inl (sym is)
index_in x (y ∷ xs) (suc k) lt is = inr (index_in x xs k (omega (arith, lt)) is)

pub rises_from : (x : ℕ) (xs : List ℕ) → Rises (x ∷ xs) → (j : ℕ) → j < length xs → x < get_or xs j 0
rises_from x [] r j lt = absurd (omega (arith, lt))
rises_from x (y ∷ xs) r zero lt = r.0
rises_from x (y ∷ xs) r (suc j) lt = omega (arith, r.0, rises_from y xs r.1 j (omega (arith, lt)))

pub rises_tail : (x : ℕ) (xs : List ℕ) → Rises (x ∷ xs) → Rises xs
rises_tail x [] r = tt
rises_tail x (y ∷ xs) r = r.1

pub rises_by_index : (xs : List ℕ) → Rises xs → (i j : ℕ) → i ≤ j → j < length xs → get_or xs i 0 ≤ get_or xs j 0
rises_by_index [] r i j le lt = absurd (omega (arith, lt))
rises_by_index (x ∷ xs) r zero zero le lt = omega arith
rises_by_index (x ∷ xs) r zero (suc j) le lt = omega (arith, rises_from x xs r j (omega (arith, lt)))
rises_by_index (x ∷ xs) r (suc i) zero le lt = absurd (omega (arith, le))
rises_by_index (x ∷ xs) r (suc i) (suc j) le lt = rises_by_index xs (rises_tail x xs r) i j (omega (arith, le)) (omega (arith, lt))

abbrev pub Searched : List ℕ → ℕ → Result ℕ ℕ → Type 0
Searched xs x r = MatchResult r (λ i. (i < length xs) × (get_or xs i 0 ≡ x)) (λ i. (i ≤ length xs) × ((k : ℕ) → k < i → get_or xs k 0 < x) × ((k : ℕ) → i ≤ k → k < length xs → x < get_or xs k 0))

pub searched_in : (xs : List ℕ) (x : ℕ) (r : Result ℕ ℕ) → Searched xs x r → IsTrue (is_ok r) ↔ IsIn x xs
searched_in xs x (Ok i) h = (λ _. index_in x xs i h.0 h.1, λ _. search rules)
searched_in xs x (Err i) h = (
  λ e. absurd (search rules),
  λ e.
      let w = in_index x xs e in
      absurd (elim (cases_lt w.0 i) [
        | inl less ↦ let a = h.1 w.0 less in omega (arith, a, w.2)
        | inr more ↦ let a = h.2 w.0 more w.1 in omega (arith, a, w.2)
      ]),
)

abbrev pub head_step : List Step → Step
head_step [] = (0, 0)
head_step (s ∷ q) = s

abbrev pub tail_steps : List Step → List Step
tail_steps [] = []
tail_steps (s ∷ q) = q

pub pair_is : (p : Pair) (q : List Step) (e : ℕ) → p.0 ≡ q → p.1 ≡ e → p ≡ (q, e)
pair_is p q e a b = ap (λ (x : List Step). (x, p.1)) a ∙ ap (λ (y : ℕ). (q, y)) b

-- a pair that stands under a step has a path of that step and a path that goes on
pub nonempty : (q : List Step) (e : ℕ) (f : Forest) → IsIn (q, e) (pairs f) → 0 < length q
nonempty q e none h = absurd h
nonempty q e (node b a ends next rest) h =
    elim (in_append _ (map (ending (b, a)) ends) _ h) [
      | inl k ↦ let w = map_in (ending (b, a)) (q, e) ends k in rw (ap (λ (p : Pair). p.0) w.1) (omega arith)
      | inr m ↦ elim (in_append _ (map (under (b, a)) (pairs next)) _ m) [
        | inl k ↦ let w = map_in (under (b, a)) (q, e) (pairs next) k in rw (ap (λ (p : Pair). p.0) w.1) (omega arith)
        | inr k ↦ nonempty q e rest k
      ]
    ]

pub in_has : (q : List Step) (e : ℕ) (f : Forest) → IsIn (q, e) (pairs f) → Has q e f
in_has q e none h = absurd h
in_has [] e (node b a ends next rest) h = absurd (let k = nonempty [] e (node b a ends next rest) h in omega (arith, k))
in_has (s ∷ []) e (node b a ends next rest) h =
    elim (in_append _ (map (ending (b, a)) ends) _ h) [
      | inl k ↦ let w = map_in (ending (b, a)) (s ∷ [], e) ends k in
          inl (ap head_step (ap (λ (p : Pair). p.0) w.1), subst (λ (x : ℕ). IsIn x ends) (sym (ap (λ (p : Pair). p.1) w.1)) w.2)
      | inr m ↦ elim (in_append _ (map (under (b, a)) (pairs next)) _ m) [
        | inl k ↦ let w = map_in (under (b, a)) (s ∷ [], e) (pairs next) k in
            absurd (let n = nonempty w.0.0 w.0.1 next w.2 in omega (arith, n, ap (λ (p : Pair). length p.0) w.1))
        | inr k ↦ inr (in_has (s ∷ []) e rest k)
      ]
    ]
in_has (s ∷ t ∷ q) e (node b a ends next rest) h =
    elim (in_append _ (map (ending (b, a)) ends) _ h) [
      | inl k ↦ let w = map_in (ending (b, a)) (s ∷ t ∷ q, e) ends k in absurd (omega (arith, ap (λ (p : Pair). length p.0) w.1))
      | inr m ↦ elim (in_append _ (map (under (b, a)) (pairs next)) _ m) [
        | inl k ↦ let w = map_in (under (b, a)) (s ∷ t ∷ q, e) (pairs next) k in
            inl (ap head_step (ap (λ (p : Pair). p.0) w.1), in_has (t ∷ q) e next (subst (λ (p : Pair). IsIn p (pairs next)) (pair_is w.0 (t ∷ q) e (sym (ap (λ (p : Pair). tail_steps p.0) w.1)) (sym (ap (λ (p : Pair). p.1) w.1))) w.2))
        | inr k ↦ inr (in_has (s ∷ t ∷ q) e rest k)
      ]
    ]

pub has_is_in : (q : List Step) (e : ℕ) (f : Forest) → Has q e f ↔ IsIn (q, e) (pairs f)
has_is_in q e f = (has_in q e f, in_has q e f)

-- std's word for it

pub in_contains : {X : Type 0} (x : X) (xs : List X) → IsIn x xs → Contains xs x
in_contains x [] h = absurd h
in_contains x (y ∷ xs) (inl is) = (0, omega arith, sym is)
in_contains x (y ∷ xs) (inr h) = let w = in_contains x xs h in (suc w.0, omega (arith, w.1), w.2)

at_in : {X : Type 0} (x : X) (xs : List X) (k : ℕ) → k < length xs → get_or xs k x ≡ x → IsIn x xs
at_in x [] k lt is = absurd (omega (arith, lt))
at_in x (y ∷ xs) zero lt is = inl (sym is)
at_in x (y ∷ xs) (suc k) lt is = inr (at_in x xs k (omega (arith, lt)) is)

pub contains_in : {X : Type 0} (x : X) (xs : List X) → Contains xs x → IsIn x xs
contains_in x xs h = at_in x xs h.0 h.1 h.2
