-- The counts of a forest, from its pairs.
use Rattle.std.proofs.Common.{◌≡◌, ℕ, ◌+◌, ◌-◌, ◌<◌, ◌⊎◌, max, min, List, [], ◌∷◌, ◌++◌, length, map, inl, inr, arith, sym, refl, length-append}
use Rattle.std.proofs.lemmas.Bool.{cases_lt, eq-eqb, ne_eqb}
use Rattle.std.proofs.lemmas.List.{length-map}
use Rattle.pattern_tree.specs.Forest.{Forest, none, node, Step, Pair, pairs, IsBefore, IsBeforeFirst, IsOrdered, HasItem, node_count, end_count, levels}
use Rattle.pattern_tree.specs.Content.{shared, known_rides, beginnings, longest}
use Rattle.pattern_tree.specs.Added.{missing_count}
use Rattle.pattern_tree.proofs.StepFacts.{first_trans}
use Rattle.pattern_tree.proofs.PairFacts.{under, ending}
use Rattle.pattern_tree.proofs.AdditionFacts.{compared}
use Rattle.pattern_tree.proofs.KeptFacts.{branch_of, missing_first, missing_later, missing_end_here, missing_here}

abbrev ends_of : Step → List ℕ → List Pair
ends_of s ends = map (ending s) ends

abbrev all_under : Step → List Pair → List Pair
all_under s ps = map (under s) ps

-- how many there are

pub length_pairs : (f : Forest) → length (pairs f) ≡ end_count f
length_pairs none = refl
length_pairs (node b a ends next rest) =
    omega (
      arith,
      length-append (ends_of (b, a) ends) (all_under (b, a) (pairs next) ++ pairs rest),
      length-append (all_under (b, a) (pairs next)) (pairs rest),
      length-map ends (ending (b, a)),
      length-map (pairs next) (under (b, a)),
      length_pairs next,
      length_pairs rest,
    )

-- a forest that isn't empty has pairs
pub pairs_some : (f : Forest) → HasItem [] f → IsOrdered f → 0 < length (pairs f)
pairs_some none item o = absurd item
pairs_some (node b a [] next rest) item o =
    let some = pairs_some next o.1 o.2 in
    omega (arith, length_pairs (node b a [] next rest), length_pairs next, some)
pairs_some (node b a (e ∷ ends) next rest) item o = omega (arith, length_pairs (node b a (e ∷ ends) next rest))

item_some : (ends : List ℕ) (next : Forest) → HasItem ends next → IsOrdered next → (0 < length ends) ⊎ (0 < length (pairs next))
item_some [] next item o = inr (pairs_some next item o)
item_some (e ∷ ends) next item o = inl (omega arith)

-- beginnings that two paths share

shared_same : (s : Step) (p q : List Step) → shared (s ∷ p) (s ∷ q) ≡ shared p q + 1
shared_same s p q = rw (eq-eqb s.0 s.0 refl, eq-eqb s.1 s.1 refl) (omega arith)

shared_before : (s t : Step) (p q : List Step) → IsBefore s t → shared (s ∷ p) (t ∷ q) ≡ 0
shared_before s t p q (inl less) = rw (ne_eqb s.0 t.0 (omega (arith, less))) refl
shared_before s t p q (inr less) = rw (eq-eqb s.0 t.0 less.0, ne_eqb s.1 t.1 (omega (arith, less.1))) refl

shared_after : (s t : Step) (p q : List Step) → IsBefore t s → shared (s ∷ p) (t ∷ q) ≡ 0
shared_after s t p q (inl less) = rw (ne_eqb s.0 t.0 (omega (arith, less))) refl
shared_after s t p q (inr less) = rw (eq-eqb s.0 t.0 (sym less.0), ne_eqb s.1 t.1 (omega (arith, less.1))) refl

shared_apart : (s t : Step) (p q : List Step) → IsBefore s t ⊎ IsBefore t s → shared (s ∷ p) (t ∷ q) ≡ 0
shared_apart s t p q (inl less) = shared_before s t p q less
shared_apart s t p q (inr more) = shared_after s t p q more

shared_none : (p : List Step) → shared p [] ≡ 0
shared_none [] = refl
shared_none (s ∷ p) = refl

-- rides that the pairs know

known_append : (p : List Step) (xs ys : List Pair) → known_rides p (xs ++ ys) ≡ max (known_rides p xs) (known_rides p ys)
known_append p [] ys = omega arith
known_append p (x ∷ xs) ys = omega (arith, known_append p xs ys)

known_nil : (xs : List Pair) → known_rides [] xs ≡ 0
known_nil [] = refl
known_nil (x ∷ xs) = omega (arith, known_nil xs)

known_empty : (p : List Step) (xs : List Pair) → length xs ≡ 0 → known_rides p xs ≡ 0
known_empty p [] h = refl
known_empty p (x ∷ xs) h = absurd (omega (arith, h))

known_ends_apart : (s t : Step) (q : List Step) (ends : List ℕ) → IsBefore s t ⊎ IsBefore t s → known_rides (s ∷ q) (ends_of t ends) ≡ 0
known_ends_apart s t q [] h = refl
known_ends_apart s t q (e ∷ ends) h = omega (arith, shared_apart s t q [] h, known_ends_apart s t q ends h)

known_under_apart : (s t : Step) (q : List Step) (xs : List Pair) → IsBefore s t ⊎ IsBefore t s → known_rides (s ∷ q) (all_under t xs) ≡ 0
known_under_apart s t q [] h = refl
known_under_apart s t q (x ∷ xs) h = omega (arith, shared_apart s t q x.0 h, known_under_apart s t q xs h)

known_ends : (s : Step) (q : List Step) (ends : List ℕ) → known_rides (s ∷ q) (ends_of s ends) ≡ min 1 (length ends)
known_ends s q [] = omega arith
known_ends s q (e ∷ ends) = omega (arith, shared_same s q [], shared_none q, known_ends s q ends)

known_under : (s : Step) (q : List Step) (xs : List Pair) → 0 < length xs → known_rides (s ∷ q) (all_under s xs) ≡ known_rides q xs + 1
known_under s q [] h = absurd (omega (arith, h))
known_under s q (x ∷ []) h = omega (arith, shared_same s q x.0)
known_under s q (x ∷ y ∷ xs) h = omega (arith, shared_same s q x.0, known_under s q (y ∷ xs) (omega arith))

known_under_empty : (s : Step) (p : List Step) (xs : List Pair) → length xs ≡ 0 → known_rides p (all_under s xs) ≡ 0
known_under_empty s p [] h = refl
known_under_empty s p (x ∷ xs) h = absurd (omega (arith, h))

known_node : (p : List Step) (b a : ℕ) (ends : List ℕ) (next rest : Forest) → known_rides p (pairs (node b a ends next rest)) ≡ max (known_rides p (ends_of (b, a) ends)) (max (known_rides p (all_under (b, a) (pairs next))) (known_rides p (pairs rest)))
known_node p b a ends next rest =
    omega (
      arith,
      known_append p (ends_of (b, a) ends) (all_under (b, a) (pairs next) ++ pairs rest),
      known_append p (all_under (b, a) (pairs next)) (pairs rest),
    )

-- a step before all siblings begins no path
known_none : (s : Step) (q : List Step) (f : Forest) → IsBeforeFirst s f → IsOrdered f → known_rides (s ∷ q) (pairs f) ≡ 0
known_none s q none h o = refl
known_none s q (node b a ends next rest) h o =
    omega (
      arith,
      known_node (s ∷ q) b a ends next rest,
      known_ends_apart s (b, a) q ends (inl h),
      known_under_apart s (b, a) q (pairs next) (inl h),
      known_none s q rest (first_trans s (b, a) rest h o.3) o.4,
    )

-- a path whose first step is a node's
known_here : (b a : ℕ) (q : List Step) (ends : List ℕ) (next rest : Forest) → IsOrdered (node b a ends next rest) → known_rides ((b, a) ∷ q) (pairs (node b a ends next rest)) ≡ known_rides q (pairs next) + 1
known_here b a q ends next rest o =
    let all = known_node ((b, a) ∷ q) b a ends next rest in
    let first = known_ends (b, a) q ends in
    let last = known_none (b, a) q rest o.3 o.4 in
    elim (cases_lt 0 (length (pairs next))) [
      | inl some ↦ omega (arith, all, first, last, known_under (b, a) q (pairs next) some)
      | inr empty ↦
          let no : length (pairs next) ≡ 0 = omega (arith, empty) in
          elim (item_some ends next o.1 o.2) [
            | inl some ↦ omega (arith, all, first, last, some, known_under_empty (b, a) ((b, a) ∷ q) (pairs next) no, known_empty q (pairs next) no)
            | inr some ↦ absurd (omega (arith, some, no))
          ]
    ]

-- each ride of a path is known or has no node
pub known_missing : (s : Step) (q : List Step) (f : Forest) → IsOrdered f → known_rides (s ∷ q) (pairs f) + missing_count s q f ≡ length (s ∷ q)
known_missing s q none o = omega arith
known_missing s [] (node b a ends next rest) o =
    elim (compared s (b, a)) [
      | inl less ↦ omega (arith, known_none s [] (node b a ends next rest) less o, missing_first s [] (branch_of b a ends next) rest less)
      | inr (inl more) ↦
          omega (
            arith,
            known_node (s ∷ []) b a ends next rest,
            known_ends_apart s (b, a) [] ends (inr more),
            known_under_apart s (b, a) [] (pairs next) (inr more),
            known_missing s [] rest o.4,
            missing_later s [] (branch_of b a ends next) rest more,
          )
      | inr (inr same) ↦
          let known : known_rides (s ∷ []) (pairs (node b a ends next rest)) ≡ known_rides [] (pairs next) + 1 = rw same (known_here b a [] ends next rest o) in
          omega (arith, known, known_nil (pairs next), missing_end_here s (branch_of b a ends next) rest same)
    ]
known_missing s (t ∷ q) (node b a ends next rest) o =
    elim (compared s (b, a)) [
      | inl less ↦ omega (arith, known_none s (t ∷ q) (node b a ends next rest) less o, missing_first s (t ∷ q) (branch_of b a ends next) rest less)
      | inr (inl more) ↦
          omega (
            arith,
            known_node (s ∷ t ∷ q) b a ends next rest,
            known_ends_apart s (b, a) (t ∷ q) ends (inr more),
            known_under_apart s (b, a) (t ∷ q) (pairs next) (inr more),
            known_missing s (t ∷ q) rest o.4,
            missing_later s (t ∷ q) (branch_of b a ends next) rest more,
          )
      | inr (inr same) ↦
          let known : known_rides (s ∷ t ∷ q) (pairs (node b a ends next rest)) ≡ known_rides (t ∷ q) (pairs next) + 1 = rw same (known_here b a (t ∷ q) ends next rest o) in
          omega (arith, known, known_missing t q next o.2, missing_here s t q (branch_of b a ends next) rest same)
    ]

-- the different beginnings

beginnings_under : (t : Step) (xs ys : List Pair) → ((q : List Step) → known_rides (t ∷ q) ys ≡ 0) → beginnings (all_under t xs ++ ys) ≡ beginnings ys + beginnings xs + min 1 (length xs)
beginnings_under t [] ys none_known = omega arith
beginnings_under t (x ∷ xs) ys none_known =
    let all = known_append (t ∷ x.0) (all_under t xs) ys in
    let rec = beginnings_under t xs ys none_known in
    elim (cases_lt 0 (length xs)) [
      | inl some ↦ omega (arith, all, rec, some, none_known x.0, known_under t x.0 xs some)
      | inr empty ↦
          let no : length xs ≡ 0 = omega (arith, empty) in
          omega (arith, all, rec, no, none_known x.0, known_under_empty t (t ∷ x.0) xs no, known_empty x.0 xs no)
    ]

beginnings_ends : (t : Step) (ends : List ℕ) (xs : List Pair) → beginnings (ends_of t ends ++ xs) ≡ beginnings xs + (min 1 (length ends) - known_rides (t ∷ []) xs)
beginnings_ends t [] xs = omega arith
beginnings_ends t (e ∷ ends) xs =
    omega (arith, known_append (t ∷ []) (ends_of t ends) xs, known_ends t [] ends, beginnings_ends t ends xs)

pub beginnings_nodes : (f : Forest) → IsOrdered f → beginnings (pairs f) ≡ node_count f
beginnings_nodes none o = refl
beginnings_nodes (node b a ends next rest) o =
    let first = beginnings_ends (b, a) ends (all_under (b, a) (pairs next) ++ pairs rest) in
    let below = beginnings_under (b, a) (pairs next) (pairs rest) (λ q. known_none (b, a) q rest o.3 o.4) in
    let known = known_append ((b, a) ∷ []) (all_under (b, a) (pairs next)) (pairs rest) in
    let last = known_none (b, a) [] rest o.3 o.4 in
    let next_nodes = beginnings_nodes next o.2 in
    let rest_nodes = beginnings_nodes rest o.4 in
    elim (cases_lt 0 (length (pairs next))) [
      | inl some ↦ omega (arith, first, below, known, last, next_nodes, rest_nodes, some, known_under (b, a) [] (pairs next) some, known_nil (pairs next))
      | inr empty ↦
          let no : length (pairs next) ≡ 0 = omega (arith, empty) in
          elim (item_some ends next o.1 o.2) [
            | inl some ↦ omega (arith, first, below, known, last, next_nodes, rest_nodes, some, no, known_under_empty (b, a) ((b, a) ∷ []) (pairs next) no)
            | inr some ↦ absurd (omega (arith, some, no))
          ]
    ]

-- the longest path

longest_append : (xs ys : List Pair) → longest (xs ++ ys) ≡ max (longest xs) (longest ys)
longest_append [] ys = omega arith
longest_append (x ∷ xs) ys = omega (arith, longest_append xs ys)

longest_empty : (xs : List Pair) → length xs ≡ 0 → longest xs ≡ 0
longest_empty [] h = refl
longest_empty (x ∷ xs) h = absurd (omega (arith, h))

longest_ends : (s : Step) (ends : List ℕ) → longest (ends_of s ends) ≡ min 1 (length ends)
longest_ends s [] = omega arith
longest_ends s (e ∷ ends) = omega (arith, longest_ends s ends)

longest_under : (s : Step) (xs : List Pair) → 0 < length xs → longest (all_under s xs) ≡ longest xs + 1
longest_under s [] h = absurd (omega (arith, h))
longest_under s (x ∷ []) h = omega arith
longest_under s (x ∷ y ∷ xs) h = omega (arith, longest_under s (y ∷ xs) (omega arith))

longest_under_empty : (s : Step) (xs : List Pair) → length xs ≡ 0 → longest (all_under s xs) ≡ 0
longest_under_empty s [] h = refl
longest_under_empty s (x ∷ xs) h = absurd (omega (arith, h))

pub longest_levels : (f : Forest) → IsOrdered f → longest (pairs f) ≡ levels f
longest_levels none o = refl
longest_levels (node b a ends next rest) o =
    let all = longest_append (ends_of (b, a) ends) (all_under (b, a) (pairs next) ++ pairs rest) in
    let later = longest_append (all_under (b, a) (pairs next)) (pairs rest) in
    let first = longest_ends (b, a) ends in
    let next_levels = longest_levels next o.2 in
    let rest_levels = longest_levels rest o.4 in
    elim (cases_lt 0 (length (pairs next))) [
      | inl some ↦ omega (arith, all, later, first, next_levels, rest_levels, longest_under (b, a) (pairs next) some)
      | inr empty ↦
          let no : length (pairs next) ≡ 0 = omega (arith, empty) in
          elim (item_some ends next o.1 o.2) [
            | inl some ↦ omega (arith, all, later, first, next_levels, rest_levels, some, longest_under_empty (b, a) (pairs next) no, longest_empty (pairs next) no)
            | inr some ↦ absurd (omega (arith, some, no))
          ]
    ]
