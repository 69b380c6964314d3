use Rattle.std.proofs.Common.{◌≡◌, List, [], arith, ap, subst, inl, inr}
use Rattle.std.specs.List.{Contains}
use Rattle.std.proofs.lemmas.Result.{IfOk-weaker}
use Rattle.std.proofs.lemmas.List.Sorted.{Contains-permutation, IsPermutation-sym}
use Rattle.pattern_tree.specs.Forest.{Pair}
use Rattle.pattern_tree.specs.Content.{Content}
use Rattle.least_walks.proofs.least.patterns_of.Goals as goal

none_in : (p : Pair) → Contains [] p → ⊥
none_in p h = let lt = h.1 in omega (arith, lt)

pub returns-in-Ok-clause-pairs : goal.returns-in-Ok-clause-pairs
returns-in-Ok-clause-pairs c =
    let new : List Pair = c.insert.new.self.pairs in
    let empty : c.new_in-tree.result.pairs ≡ [] = ap (λ (t : Content). t.pairs) c.new_in-tree.ensures in
    let added = c.in-Ok.ensures.added in
    IfOk-weaker c.of.result _ _
    (λ patterns moved p. (
      (λ h. elim ((added p).0 (Contains-permutation patterns.pairs new p (IsPermutation-sym new patterns.pairs moved) h)) [
        | inl was ↦ absurd (none_in p (subst (λ (ps : List Pair). Contains ps p) empty was))
        | inr e ↦ e
      ]),
      (λ e. Contains-permutation new patterns.pairs p moved ((added p).1 (inr e))),
    ))
    c.of.ensures.pairs
