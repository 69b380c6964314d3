-- A tree's pairs in another order.
use Rattle.std.proofs.Common.{◌≡◌, ℕ, ◌≤◌, List, [], ◌∷◌, length, arith, refl, sym, ◌∙◌, ap, subst, inl, inr}
use Rattle.std.specs.List.Sorted.{IsPermutation}
use Rattle.std.proofs.lemmas.List.Sorted.{Contains-permutation, IsPermutation-sym}
use Rattle.timetable.specs.Table.{Table}
use Rattle.timetable.specs.Journeys.{Reaches, Unbeaten}
use Rattle.pattern_tree.specs.Forest.{Pair}
use Rattle.pattern_tree.specs.Paths.{IsIn}
use Rattle.pattern_tree.specs.Content.{Content, longest}
use Rattle.pattern_tree.specs.Completeness.{IsPathOf, IsTreeOf, IsWhole}
use Rattle.pattern_tree.proofs.PairFacts.{in_contains, contains_in}

-- no path of the pairs is longer than the longest
pub longest_in : (ps : List Pair) (p : Pair) → IsIn p ps → length p.0 ≤ longest ps
longest_in [] p h = absurd h
longest_in (q ∷ ps) p (inl e) = (let l = ap (λ (p : Pair). length p.0) e in omega (arith, l))
longest_in (q ∷ ps) p (inr h) = (let l = longest_in ps p h in omega (arith, l))

-- if none is longer than k, the longest isn't
longest_all : (ps : List Pair) (k : ℕ) → ((p : Pair) → IsIn p ps → length p.0 ≤ k) → longest ps ≤ k
longest_all [] k all = omega arith
longest_all (q ∷ ps) k all =
    let here = all q (inl refl) in
    let later = longest_all ps k (λ p h. all p (inr h)) in
    omega (arith, here, later)

pub longest_still : (ps qs : List Pair) (k : ℕ) → IsPermutation ps qs → longest ps ≤ k → longest qs ≤ k
longest_still ps qs k same short = longest_all qs k (λ p h.
    let was = contains_in p ps (Contains-permutation qs ps p (IsPermutation-sym ps qs same) (in_contains p qs h)) in
    let l = longest_in ps p was in omega (arith, l, short))

-- a tree of the source stays one
pub tree_still : (table : Table) (k s : ℕ) (old new : Content) → new.source ≡ old.source → IsPermutation old.pairs new.pairs → IsTreeOf table k s old → IsTreeOf table k s new
tree_still table k s old new source same is = record {
  source = source ∙ is.source;
  complete = λ d t n un.
      let c = is.complete d t n (subst (λ s. Unbeaten (Reaches table 1 k s t d) n) source un) in
      (c.0, subst (λ s. IsPathOf table s t d n c.0) (sym source) c.1, Contains-permutation old.pairs new.pairs (c.0, t) same c.2);
  earned = λ path t in'.
      let e = is.earned path t (Contains-permutation new.pairs old.pairs (path, t) (IsPermutation-sym old.pairs new.pairs same) in') in
      (e.0, e.1, subst (λ s. Unbeaten (Reaches table 1 k s t e.0) e.1) (sym source) e.2, subst (λ s. IsPathOf table s t e.0 e.1 path) (sym source) e.3);
  short = longest_still old.pairs new.pairs k same is.short;
}

pub own_still : (table : Table) (k : ℕ) (old new : Content) → new.source ≡ old.source → IsPermutation old.pairs new.pairs → IsTreeOf table k old.source old
    → IsTreeOf table k new.source new
own_still table k old new source same is = subst (λ (s : ℕ). IsTreeOf table k s new) (sym source) (tree_still table k old.source old new source same is)

-- a tree that has no others is whole
pub whole_of : (table : Table) (k s : ℕ) (tree : Content) → IsTreeOf table k s tree → IsWhole table k tree
whole_of table k s tree is = record { complete = is.complete; short = is.short }
