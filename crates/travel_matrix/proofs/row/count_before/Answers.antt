use Rattle.std.proofs.Common.{ℕ, ◌≤◌, get_or, arith, rules, ltb, eq-or-lt_of_le, inl, inr, subst, List, le_refl, ◌<◌}
use Rattle.std.specs.List.{AllPairs}
use Rattle.std.specs.List.Sorted.{IsNonDecreasingBy}
use Rattle.std.proofs.lemmas.Bool.{ltb-true, ltb-false}
use Rattle.std.proofs.lemmas.List.Sorted.{IsPartitionedBy-ltb, IsPartitionPoint-from_clause}
use Rattle.reaching.specs.declared.travel_time.TravelTimes.{TravelTimes}
use Rattle.travel_matrix.proofs.row.count_before.Goals as goal

never_fall : (xs : List TravelTimes) → AllPairs (λ a b. a.stop < b.stop) xs → IsNonDecreasingBy (λ (t : TravelTimes). t.stop) xs
never_fall xs rising = λ i j d le below. elim (eq-or-lt_of_le le) [
  | inl e ↦ subst (λ (x : ℕ). (get_or xs i d).stop ≤ (get_or xs x d).stop) e (le_refl (get_or xs i d).stop)
  | inr lt ↦ let less = rising i j d lt below in let z : (get_or xs i d).stop ≤ (get_or xs j d).stop = omega (arith, less) in z
]

pub returns-clause-before : goal.returns-clause-before
returns-clause-before c =
    let xs = c.args.list.now in
    let n = c.args.goal in
    let at = IsPartitionPoint-from_clause (λ (t : TravelTimes). ltb t.stop n) xs c.partition_point.result c.partition_point.ensures.partitioned
    (IsPartitionedBy-ltb (λ (t : TravelTimes). t.stop) xs n (never_fall xs c.requires)) (λ a r f called. search rules) in
    λ i d from below. ltb-true (get_or xs i d).stop n (at.0 i d from below)

pub returns-clause-others : goal.returns-clause-others
returns-clause-others c =
    let xs = c.args.list.now in
    let n = c.args.goal in
    let at = IsPartitionPoint-from_clause (λ (t : TravelTimes). ltb t.stop n) xs c.partition_point.result c.partition_point.ensures.partitioned
    (IsPartitionedBy-ltb (λ (t : TravelTimes). t.stop) xs n (never_fall xs c.requires)) (λ a r f called. search rules) in
    λ i d from below. ltb-false (get_or xs i d).stop n (at.1 i d from below)
