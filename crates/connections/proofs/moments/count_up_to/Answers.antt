use Rattle.std.proofs.Common.{ℕ, ◌≤◌, get_or, arith, rules, eq-or-lt_of_le, leb, inl, inr, subst}
use Rattle.std.specs.List.Sorted.{IsStrictlyIncreasing, IsNonDecreasingBy}
use Rattle.std.proofs.lemmas.Bool.{leb-true, leb-false}
use Rattle.std.proofs.lemmas.List.Kept.{AllPairs-from_increasing}
use Rattle.std.proofs.lemmas.List.Sorted.{IsPartitionedBy-leb, IsPartitionPoint-from_clause}
use Rattle.std.proofs.Common.{List, le_refl}
use Rattle.connections.proofs.moments.count_up_to.Goals as goal

never_falls : (xs : List ℕ) → IsStrictlyIncreasing xs → IsNonDecreasingBy (λ x. x) xs
never_falls xs rising = λ i j d le in'. elim (eq-or-lt_of_le le) [
  | inl e ↦ subst (λ (x : ℕ). get_or xs i d ≤ get_or xs x d) e (le_refl (get_or xs i d))
  | inr lt ↦ (let less = AllPairs-from_increasing xs rising i j d lt in' in let z : get_or xs i d ≤ get_or xs j d = omega (arith, less) in z)
]

pub returns-clause-split : goal.returns-clause-split
returns-clause-split c =
    let xs = c.args.moments.now in
    let m = c.args.moment in
    let at = IsPartitionPoint-from_clause (λ (y : ℕ). leb y m) xs c.partition_point.result c.partition_point.ensures.partitioned
    (IsPartitionedBy-leb (λ (x : ℕ). x) xs m (never_falls xs c.requires)) (λ a r f called. search rules) in
    (λ i lt. leb-true (get_or xs i 0) m (at.0 i 0 (omega arith) lt), λ i le lt. leb-false (get_or xs i 0) m (at.1 i 0 le lt))
