-- The patterns of so few rounds, and that they are never too many for one tree.
use Rattle.std.proofs.Common.{Option, ◌≡◌, ◌≢◌, ℕ, ◌+◌, ◌*◌, ◌<◌, ◌≤◌, ◌⊎◌, ◌↔◌, List, [], ◌∷◌, length, map, get_or, Some, None, IsSomeAnd, Contains, AllPairs, arith, refl, sym, ◌∙◌, ap, subst, inl, inr, eqb, true, false}
use Rattle.std.proofs.lemmas.Bool.{cases_eq, ne_eqb, eqb-true}
use Rattle.std.proofs.lemmas.List.{get_or-map, length-map}
use Rattle.std.proofs.lemmas.List.Elements.{Contains-get_or}
use Rattle.std.proofs.lemmas.Map.Keys.{IsDistinct-from_apart}
use Rattle.std.proofs.lemmas.Map.Steps.{length-le_from_distinct_below}
use Rattle.std.proofs.lemmas.Map.Views.{Contains-from_any}
use Rattle.std.proofs.lemmas.List.Sorted.{Contains-permutation, IsPermutation-sym}
use Rattle.std.specs.List.{list_any}
use Rattle.std.specs.List.Sorted.{IsPermutation}
use Rattle.rounds.specs.Mark.{Mark, mark_in}
use Rattle.pattern_tree.specs.Forest.{Step, Pair}
use Rattle.pattern_tree.specs.Content.{IsTooLarge, beginnings}
use Rattle.pattern_tree.specs.Paths.{IsIn}
use Rattle.pattern_tree.proofs.PairFacts.{in_contains}
use Rattle.scanned_journeys.specs.Patterns.{AreCounted, PaysOff, IsPattern, HasPatterns}

abbrev rides_in : Pair → ℕ
rides_in p = length p.0

no_pair : Pair
no_pair = ([], 0)

-- pairs of which no two have as many rides, each fewer than n, are at most n
few_pairs : (pairs : List Pair) (n : ℕ) → AllPairs (λ p q. p ≢ q) pairs
    → ((p q : Pair) → Contains pairs p → Contains pairs q → length p.0 ≡ length q.0 → p ≡ q)
    → ((p : Pair) → Contains pairs p → length p.0 < n) → length pairs ≤ n
few_pairs pairs n once same below =
    subst (λ k. k ≤ n) (length-map {B = ℕ} pairs rides_in) (length-le_from_distinct_below (map rides_in pairs) n (IsDistinct-from_apart eqb (map rides_in pairs) apart) found) where
      at : (i d : ℕ) → i < length (map rides_in pairs) → (i < length pairs) × (get_or (map rides_in pairs) i d ≡ length (get_or pairs i no_pair).0)
      at i d lt =
          let within : i < length pairs = omega (arith, lt, length-map {B = ℕ} pairs rides_in) in
          (within, get_or-map rides_in pairs i no_pair d within)

      apart : (i j d : ℕ) → i < j → j < length (map rides_in pairs) → eqb (get_or (map rides_in pairs) i d) (get_or (map rides_in pairs) j d) ≡ false
      apart i j d lt in' =
          let y = at j d in' in
          let x = at i d (omega arith) in
          ne_eqb (get_or (map rides_in pairs) i d) (get_or (map rides_in pairs) j d) (λ e.
          once i j no_pair lt y.0 (same (get_or pairs i no_pair) (get_or pairs j no_pair) (Contains-get_or pairs i no_pair x.0) (Contains-get_or pairs j no_pair y.0)
          (sym x.1 ∙ e ∙ y.1)))

      found : (q : ℕ) → list_any (eqb q) (map rides_in pairs) ≡ true → q < n
      found q h =
          let c = Contains-from_any eqb-true q (map rides_in pairs) h in
          let x = at c.0 q c.1 in
          let b = below (get_or pairs c.0 no_pair) (Contains-get_or pairs c.0 no_pair x.0) in
          omega (arith, b, x.1, c.2)

-- a number of paths of at most 8 rides have at most 8 times as many beginnings
beginnings_few : (pairs : List Pair) → ((p : Pair) → IsIn p pairs → length p.0 ≤ 8) → beginnings pairs ≤ 8 * length pairs
beginnings_few [] each = omega arith
beginnings_few (p ∷ pairs) each =
    let rest = beginnings_few pairs (λ q i. each q (inr i)) in
    let here = each p (inl refl) in
    omega (arith, rest, here)

module _ (rounds : List (List (Option Mark))) (t : ℕ) where
  -- the pattern that the rounds have for some rides
  pub pattern_of : (k r : ℕ) → AreCounted rounds t k → 1 ≤ r → r ≤ k → (path : List Step) → PaysOff rounds t r
      → IsSomeAnd (mark_in rounds r t) (λ m. path ≡ m.path) → IsPattern rounds t r (path, t)
  pattern_of k r counted some few path sooner is =
      record { ends = refl; counted = count (mark_in rounds r t) refl is; pays_off = sooner; path = is } where
        count : (o : Option Mark) → mark_in rounds r t ≡ o → IsSomeAnd o (λ m. path ≡ m.path) → length path ≡ r
        count None e h = absurd h
        count (Some m) e h = ap (λ (x : List Step). length x) h ∙ counted r m some few e sooner

  -- of `r` rides there is one pattern at most
  same_pattern : (r : ℕ) (p q : Pair) → IsPattern rounds t r p → IsPattern rounds t r q → p ≡ q
  same_pattern r p q a b = ap (λ (x : List Step). (x, p.1)) (path (mark_in rounds r t) a.path b.path) ∙ ap (λ (e : ℕ). (q.0, e)) (a.ends ∙ sym b.ends) where
    path : (o : Option Mark) → IsSomeAnd o (λ m. p.0 ≡ m.path) → IsSomeAnd o (λ m. q.0 ≡ m.path) → p.0 ≡ q.0
    path None x y = absurd x
    path (Some m) x y = x ∙ sym y

  module _ (n : ℕ) (pairs : List Pair) (has : HasPatterns rounds t n pairs) where
    of_all : (p : Pair) → Contains pairs p → (length p.0 ≤ n) × IsPattern rounds t (length p.0) p
    of_all p c =
        let r = has.only p c in
        let few = r.2 in
        (omega (arith, few, r.3.counted), subst (λ (k : ℕ). IsPattern rounds t k p) (sym r.3.counted) r.3)

    one_each : (p q : Pair) → Contains pairs p → Contains pairs q → length p.0 ≡ length q.0 → p ≡ q
    one_each p q a b e = same_pattern (length q.0) p q (subst (λ (k : ℕ). IsPattern rounds t k p) e (of_all p a).1) (of_all q b).1

    -- one more has room
    pub room_for : (p : Pair) → AllPairs (λ p q. p ≢ q) pairs → n ≤ 7 → length p.0 ≤ 8 → ¬ IsTooLarge pairs p
    room_for p once few short large =
        let many = few_pairs pairs (n + 1) once one_each (λ q c. let l = (of_all q c).0 in omega (arith, l)) in
        let all = beginnings_few (p ∷ pairs) each in
        elim large.1 [
          | inl nodes ↦ (let b : ⊥ = omega (arith, nodes, all, many, few) in b)
          | inr ends ↦ (let b : ⊥ = omega (arith, ends, many, few) in b)
        ] where
          each : (q : Pair) → IsIn q (p ∷ pairs) → length q.0 ≤ 8
          each q (inl is) = (let e = ap (λ (x : Pair). length x.0) is in omega (arith, e, short))
          each q (inr i) = (let l = (of_all q (in_contains q pairs i)).0 in omega (arith, l, few))

    -- the pattern of one ride more
    pub more_patterns : (new : List Pair) (p : Pair) → IsPattern rounds t (n + 1) p → ((q : Pair) → Contains new q ↔ (Contains pairs q ⊎ (q ≡ p)))
        → HasPatterns rounds t (n + 1) new
    more_patterns new p is added = record {
      only = λ q c. elim ((added q).0 c) [
        | inl was ↦ (let r = has.only q was in let few = r.2 in (r.0, r.1, (let k : r.0 ≤ n + 1 = omega (arith, few) in k), r.3))
        | inr e ↦ ((n + 1), (omega arith), (omega arith), subst (λ (x : Pair). IsPattern rounds t (n + 1) x) (sym e) is)
      ];
      all = λ r q some few found. elim (cases_eq r (n + 1)) [
        | inl e ↦ (added q).1 (inr (same_pattern (n + 1) q p (subst (λ (k : ℕ). IsPattern rounds t k q) e found) is))
        | inr apart ↦ (added q).1 (inl (has.all r q some (omega (arith, few, apart)) found))
      ];
    }

    -- one ride more is no sooner
    pub no_pattern : (PaysOff rounds t (n + 1) → ⊥) → HasPatterns rounds t (n + 1) pairs
    no_pattern no_sooner = record {
      only = λ q c. (let r = has.only q c in let few = r.2 in (r.0, r.1, (let k : r.0 ≤ n + 1 = omega (arith, few) in k), r.3));
      all = λ r q some few found. elim (cases_eq r (n + 1)) [
        | inl e ↦ absurd (no_sooner (subst (λ (k : ℕ). PaysOff rounds t k) e found.pays_off))
        | inr apart ↦ has.all r q some (omega (arith, few, apart)) found
      ];
    }

-- a list in another order has the same patterns
pub same_patterns : (rounds : List (List (Option Mark))) (t n : ℕ) (old new : List Pair) → IsPermutation old new → HasPatterns rounds t n old → HasPatterns rounds t n new
same_patterns rounds t n old new moved has = record {
  only = λ p c. has.only p (Contains-permutation new old p (IsPermutation-sym old new moved) c);
  all = λ r p some few found. Contains-permutation old new p moved (has.all r p some few found);
}
