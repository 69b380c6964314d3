-- Trees with the same source and the same pairs answer alike.
use Rattle.std.proofs.Common.{◌≡◌, ℕ, Option, None, Some, sym, subst, inl, inr}
use Rattle.std.specs.List.Sorted.{IsPermutation}
use Rattle.std.proofs.lemmas.List.Sorted.{Contains-permutation, IsPermutation-sym}
use Rattle.timetable.specs.declared.parts.Numbers.{Numbers}
use Rattle.timetable.specs.Journeys.{Journey, Pareto, Unbeaten, pattern}
use Rattle.timetable.specs.Table.{Table}
use Rattle.pattern_tree.specs.Content.{Content}
use Rattle.pattern_query.specs.Answer.{TreeReaches}
use Rattle.rounds.specs.Events.{IsEvent}
use Rattle.auditing.specs.Audits.{Agrees, IsFirstDifference}
use Rattle.auditing.specs.declared.auditing.Difference.{Difference}

-- they reach the same
pub reaches_same : (table : Table) (a b : Content) (t d : ℕ) (n : Numbers) → a.source ≡ b.source → IsPermutation a.pairs b.pairs
    → TreeReaches table a t d n → TreeReaches table b t d n
reaches_same table a b t d n source pairs h = (
  h.0,
  (
    subst (λ (s : ℕ). Journey table s d h.0 t n.arrival) source h.1.0,
    elim h.1.1 [
      | inl on_foot ↦ inl on_foot
      | inr has ↦ inr (Contains-permutation a.pairs b.pairs (pattern table h.0, t) pairs has)
    ],
  ),
  h.2,
)

-- the best of a set are the best of one that has the same numbers
best_same : (P Q : Numbers → Type 0) (n : Numbers) → ((m : Numbers) → P m → Q m) → ((m : Numbers) → Q m → P m) → Unbeaten P n → Unbeaten Q n
best_same P Q n to from best = (to n best.0, λ m of. best.1 m (from m of))

-- they agree at the same moments and to the same stops
agree_same : (table : Table) (a b : Content) (k d t : ℕ) → a.source ≡ b.source → IsPermutation a.pairs b.pairs → Agrees table a k d t
    → Agrees table b k d t
agree_same table a b k d t source pairs agrees = λ n ridden.
    let to = λ (m : Numbers) (h : TreeReaches table a t d m). reaches_same table a b t d m source pairs h in
    let back = λ (m : Numbers) (h : TreeReaches table b t d m).
    reaches_same table b a t d m (sym source) (IsPermutation-sym a.pairs b.pairs pairs) h in (
      λ best. subst (λ (s : ℕ). Pareto table k s t d n) source
          ((agrees n ridden).0 (best_same (TreeReaches table b t d) (TreeReaches table a t d) n back to best)),
      λ best. best_same (TreeReaches table a t d) (TreeReaches table b t d) n to back
          ((agrees n ridden).1 (subst (λ (s : ℕ). Pareto table k s t d n) (sym source) best)),
    )

-- so their first differences are the same
pub first_still : (table : Table) (a b : Content) (k : ℕ) (difference : Option Difference) → a.source ≡ b.source → IsPermutation a.pairs b.pairs
    → IsFirstDifference table a k difference → IsFirstDifference table b k difference
first_still table a b k None source pairs h = λ e event t within.
    agree_same table a b k e t source pairs (h e (subst (λ (s : ℕ). IsEvent table s e) (sym source) event) t within)
first_still table a b k (Some difference) source pairs h = record {
  event = subst (λ (s : ℕ). IsEvent table s difference.depart) source h.event;
  within = h.within;
  differs = λ agrees. h.differs
      (agree_same table b a k difference.depart difference.to (sym source) (IsPermutation-sym a.pairs b.pairs pairs) agrees);
  earlier = λ e early event t within. agree_same table a b k e t source pairs
      (h.earlier e early (subst (λ (s : ℕ). IsEvent table s e) (sym source) event) t within);
  before = λ t lower. agree_same table a b k difference.depart t source pairs (h.before t lower);
}
