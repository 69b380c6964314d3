use Rattle.std.proofs.Common.{ℕ, ◌≤◌, get_or, arith, rules, eq-or-lt_of_le, leb, inl, inr, subst, le_refl}
use Rattle.std.specs.List.{AllPairs}
use Rattle.std.specs.List.Sorted.{IsNonDecreasingBy}
use Rattle.std.proofs.Common.{List}
use Rattle.std.proofs.lemmas.Bool.{leb-true, leb-false}
use Rattle.std.proofs.lemmas.List.Sorted.{IsPartitionedBy-leb, IsPartitionPoint-from_clause}
use Rattle.lines.specs.declared.line.Times.{Times}
use Rattle.lines.specs.Lines.{AreNoLater}
use Rattle.direct_connections.proofs.latest.count_arriving.Goals as goal

arrivals_rise : (times : List Times) → AllPairs AreNoLater times → IsNonDecreasingBy (λ (t : Times). t.arrival) times
arrivals_rise times rising = λ i j d le in'. elim (eq-or-lt_of_le le) [
  | inl e ↦ subst (λ (x : ℕ). (get_or times i d).arrival ≤ (get_or times x d).arrival) e (le_refl (get_or times i d).arrival)
  | inr lt ↦ (rising i j d lt in').0
]

pub returns : goal.returns
returns c =
    let times = c.args.times.now in
    let by = c.args.by in
    let at = IsPartitionPoint-from_clause (λ (t : Times). leb t.arrival by) times c.partition_point.result c.partition_point.ensures.partitioned
    (IsPartitionedBy-leb (λ (t : Times). t.arrival) times by (arrivals_rise times c.requires)) (λ a r f called. search rules) in
    record {
      within = c.partition_point.ensures.bound;
      these = λ k d lt. leb-true (get_or times k d).arrival by (at.0 k d (let b = c.partition_point.ensures.bound in omega (arith, b, lt)) lt);
      others = λ k d le lt. leb-false (get_or times k d).arrival by (at.1 k d le lt);
    }
