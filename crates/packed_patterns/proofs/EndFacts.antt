-- The patterns of a source, by the stops at which they end.
use Rattle.std.proofs.Common.{◌≡◌, ◌≢◌, ◌↔◌, ℕ, suc, true, false, ◌+◌, ◌-◌, ◌<◌, ◌≤◌, List, [], ◌∷◌, length, take, drop, get_or, ltb, arith, sym, ◌∙◌, ap, inl, inr, true≢false}
use Rattle.std.specs.List.{Contains}
use Rattle.std.specs.List.Sorted.{IsPartitionPoint}
use Rattle.std.proofs.lemmas.Bool.{cases_eq, cases_lt}
use Rattle.std.proofs.lemmas.Bool.Decides.{leb_tells}
use Rattle.std.proofs.Math.Seq.{take-length}
use Rattle.std.proofs.lemmas.List.{length-map, length-drop, length-take-le, get_or-map, get_or-take, get_or-drop}
use Rattle.pattern_tree.specs.Forest.{Step, Pair}
use Rattle.packed_patterns.specs.declared.packing.Beginning.{Beginning}
use Rattle.packed_patterns.specs.declared.packing.Pattern.{Pattern}
use Rattle.packed_patterns.specs.Patterns.{path_of, paths_of, pair_of, pairs_of, AreByEnd, IsFirstOther}

-- the first of a list that isn't empty
some_of : {X : Type 0} (xs : List X) (k : ℕ) → k < length xs → X
some_of [] k lt = absurd (let b : ⊥ = omega (arith, lt) in b)
some_of (x ∷ xs) k lt = x

-- all of a list from some index on
pub rest_is : {X : Type 0} (from : ℕ) (xs : List X) → take (length xs - from) (drop from xs) ≡ drop from xs
rest_is from xs = ap (λ k. take k (drop from xs)) (sym (length-drop from xs)) ∙ take-length (drop from xs)

strictly : (a b c : ℕ) → b ≢ a → a ≤ b → b ≤ c → a < c
strictly a b c ne le more = elim (cases_lt a c) [
  | inl lt ↦ lt
  | inr le' ↦ absurd (ne (omega (arith, le, more, le')))
]

same_pair : (bs : List Beginning) (p : Pattern) (path : List Step) (end : ℕ) → path_of bs p ≡ path → p.end ≡ end → pair_of bs p ≡ (path, end)
same_pair bs p path end is ends = ap (λ (q : List Step). (q, p.end)) is ∙ ap (λ (e : ℕ). (path, e)) ends

-- the patterns from the first that ends at the stop or at a later one, up to the first of these that doesn't end at the stop
module _ (bs : List Beginning) (ps : List Pattern) (end from n : ℕ) (rises : AreByEnd ps)
    (low : IsPartitionPoint (λ (p : Pattern). ltb p.end end ≡ true) (λ (p : Pattern). ltb p.end end ≡ false) ps from) (high : IsFirstOther (drop from ps) end n) where
  abbrev pub part : List Pattern
  part = take n (drop from ps)

  -- a pattern below `from` ends before the stop, one from there on doesn't
  below : (k : ℕ) (d : Pattern) → k < from → (get_or ps k d).end < end
  below k d lt = elim (leb_tells (suc (get_or ps k d).end) end) [
    | inl so ↦ (let l = so.1 in omega (arith, l))
    | inr other ↦ absurd (true≢false (sym (low.0 k d (omega arith) lt) ∙ other.0))
  ]

  not_below : (k : ℕ) (d : Pattern) → from ≤ k → k < length ps → end ≤ (get_or ps k d).end
  not_below k d le lt = elim (leb_tells (suc (get_or ps k d).end) end) [
    | inl so ↦ absurd (true≢false (sym so.0 ∙ low.1 k d le lt))
    | inr other ↦ (let l = other.1 in omega (arith, l))
  ]

  -- of those from there on, no other than the first n ends at the stop
  behind : (k : ℕ) (d : Pattern) → n ≤ k → k < length (drop from ps) → end < (get_or (drop from ps) k d).end
  behind k d le lt =
      let size = length-drop from ps in
      let fits : from + k < length ps = omega (arith, lt, size) in
      let more : from + n ≤ from + k = omega (arith, le) in
      let first = get_or-drop from ps n d in
      let here = get_or-drop from ps k d in
      let same = ap (λ (p : Pattern). p.end) first in
      let index = ap (λ (p : Pattern). p.end) here in
      let late = not_below (from + n) d (omega arith) (omega (arith, fits, more)) in
      let rise = rises (from + n) (from + k) d more fits in
      elim (cases_eq (get_or (drop from ps) n d).end end) [
        | inl e ↦ absurd (high.other d (omega (arith, le, lt)) e)
        | inr ne ↦ strictly end (get_or (drop from ps) n d).end (get_or (drop from ps) k d).end ne (omega (arith, late, same)) (omega (arith, rise, same, index))
      ]

  part_length : length part ≡ n
  part_length = length-take-le n (drop from ps) high.within

  part_at : (k : ℕ) (d : Pattern) → k < n → get_or part k d ≡ get_or ps (from + k) d
  part_at k d lt = get_or-take n (drop from ps) k d lt ∙ get_or-drop from ps k d

  pair_in : (path : List Step) → Contains (paths_of bs part) path → Contains (pairs_of bs ps) (path, end)
  pair_in path (k, lt, is) =
      let m = length-map part (path_of bs) in
      let l = part_length in
      let few : k < n = omega (arith, lt, m, l) in
      let within = high.within in
      let fits : from + k < length ps = omega (arith, few, within, length-drop from ps) in
      let d = some_of ps (from + k) fits in
      let here : path_of bs (get_or ps (from + k) d) ≡ path =
      ap (path_of bs) (sym (part_at k d few)) ∙ sym (get_or-map (path_of bs) part k d path (omega (arith, few, l))) ∙ is in
      let early = not_below (from + k) d (omega arith) fits in
      let late = high.same k d few in
      let same : (get_or (drop from ps) k d).end ≡ (get_or ps (from + k) d).end = ap (λ (p : Pattern). p.end) (get_or-drop from ps k d) in
      let ends : (get_or ps (from + k) d).end ≡ end = omega (arith, early, late, same) in
      (from + k, (omega (arith, fits, length-map ps (pair_of bs))), get_or-map (pair_of bs) ps (from + k) d (path, end) fits ∙ same_pair bs (get_or ps (from + k) d) path end here ends)

  in_pair : (path : List Step) → Contains (pairs_of bs ps) (path, end) → Contains (paths_of bs part) path
  in_pair path (k, lt, is) =
      let fits : k < length ps = omega (arith, lt, length-map ps (pair_of bs)) in
      let d = some_of ps k fits in
      let pair : pair_of bs (get_or ps k d) ≡ (path, end) = sym (get_or-map (pair_of bs) ps k d (path, end) fits) ∙ is in
      let ends : (get_or ps k d).end ≡ end = ap (λ (p : Pair). p.1) pair in
      let late : from ≤ k = elim (cases_lt k from) [
        | inl lt' ↦ absurd (let b = below k d lt' in let bad : ⊥ = omega (arith, b, ends) in bad)
        | inr le ↦ le
      ] in
      let index : from + (k - from) ≡ k = omega (arith, late) in
      let there : get_or (drop from ps) (k - from) d ≡ get_or ps k d = get_or-drop from ps (k - from) d ∙ ap (λ i. get_or ps i d) index in
      let few : k - from < n = elim (cases_lt (k - from) n) [
        | inl lt' ↦ lt'
        | inr le ↦ absurd (
            let b = behind (k - from) d le (omega (arith, fits, late, length-drop from ps)) in
            let same = ap (λ (p : Pattern). p.end) there in
            let bad : ⊥ = omega (arith, b, same, ends) in bad)
      ] in
      let m = length-map part (path_of bs) in
      let l = part_length in (
        k - from,
        (omega (arith, few, m, l)),
        get_or-map (path_of bs) part (k - from) d path (omega (arith, few, l))
            ∙ ap (path_of bs) (part_at (k - from) d few ∙ ap (λ i. get_or ps i d) index) ∙ ap (λ (p : Pair). p.0) pair,
      )

  pub part_is : (path : List Step) → Contains (paths_of bs part) path ↔ Contains (pairs_of bs ps) (path, end)
  part_is path = (pair_in path, in_pair path)
