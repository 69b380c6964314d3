-- When the answers from a tree agree with those of the timetable.
use Rattle.std.proofs.Common.{◌≡◌, ◌↔◌, ℕ, zero, suc, ◌+◌, ◌<◌, ◌≤◌, ◌⊎◌, List, [], length, Contains, arith, ap, sym, subst, inl, inr, le_trans}
use Rattle.timetable.specs.declared.parts.Leg.{Leg}
use Rattle.timetable.specs.declared.parts.Numbers.{Numbers}
use Rattle.timetable.specs.Table.{Table}
use Rattle.timetable.specs.Journeys.{Beats, Journey, Pareto, Reaches, Unbeaten, pattern}
use Rattle.pattern_tree.specs.Forest.{Step}
use Rattle.pattern_tree.specs.Content.{Content, longest}
use Rattle.pattern_tree.specs.Completeness.{Complete}
use Rattle.pattern_tree.proofs.PairFacts.{contains_in}
use Rattle.pattern_tree.proofs.OrderFacts.{longest_in}
use Rattle.pattern_query.specs.Answer.{TreeReaches}
use Rattle.pattern_query.proofs.TreeSteps.{has_best}
use Rattle.pattern_query.proofs.WaySteps.{pattern_length}
use Rattle.auditing.specs.Audits.{Agrees}

beats_on : (l m n : Numbers) → Beats l m → Beats m n → Beats l n
beats_on l m n one two = (
  le_trans one.0 two.0,
  le_trans one.1 two.1,
  elim two.2 [
    | inl lt ↦ inl (let a = one.0 in let z : l.arrival < n.arrival = omega (arith, a, lt) in z)
    | inr lt ↦ inr (let a = one.1 in let z : l.rides < n.rides = omega (arith, a, lt) in z)
  ],
)

-- a set that has the best of a larger one has the same best
module _ (Of Larger : Numbers → Type 0) (within : (n : Numbers) → Of n → Larger n) (has : (n : Numbers) → Unbeaten Larger n → Of n) where
  none_beats : (fuel : ℕ) (n m : Numbers) → m.arrival + m.rides < fuel → Unbeaten Of n → Larger m → ¬ Beats m n
  none_beats zero n m lt un of beats = absurd (omega (arith, lt))
  none_beats (suc fuel) n m lt un of beats = un.1 m (has m (
    of,
    λ l all b.
        let smaller : l.arrival + l.rides < fuel =
        (let a = b.0 in let r = b.1 in elim b.2 [ inl x ↦ omega (arith, a, r, x, lt) | inr x ↦ omega (arith, a, r, x, lt) ]) in
        none_beats fuel n l smaller un all (beats_on l m n b beats),
  )) beats

  pub same_best : (n : Numbers) → Unbeaten Of n ↔ Unbeaten Larger n
  same_best n = (
    λ un. (within n un.0, λ m of. none_beats (suc (m.arrival + m.rides)) n m (omega arith) un of),
    λ un. (has n un, λ m of. un.1 m (within m of)),
  )

-- journeys of a tree whose paths have at most k rides are such journeys
pub tree_within : (table : Table) (tree : Content) (k d t : ℕ) → longest tree.pairs ≤ k → (n : Numbers)
    → TreeReaches table tree t d n → Reaches table 0 k tree.source t d n
tree_within table tree k d t short n of = (of.0, of.1.0, of.2, (omega arith), few of.1.1) where
  few : (of.0 ≡ []) ⊎ Contains tree.pairs (pattern table of.0, t) → n.rides ≤ k
  few (inl e) = (let l = ap (λ (l : List Leg). length l) e in let r = of.2 in omega (arith, l, r))
  few (inr c) = (let l = longest_in tree.pairs (pattern table of.0, t) (contains_in _ tree.pairs c) in let r = of.2 in omega (arith, l, r, short, pattern_length table of.0))

-- a tree that has all patterns to a stop that a complete tree has agrees there
module _ (table : Table) (tree built : Content) (k t : ℕ) (same : built.source ≡ tree.source)
    (complete : Complete table k built.source built.pairs) (short : longest tree.pairs ≤ k)
    (has : (path : List Step) → Contains built.pairs (path, t) → Contains tree.pairs (path, t)) where
  has_all : (d : ℕ) (n : Numbers) → Pareto table k tree.source t d n → TreeReaches table tree t d n
  has_all d n un =
      let of = has_best table built t d k complete n (subst (λ (s : ℕ). Pareto table k s t d n) (sym same) un) in (
        of.0,
        (
          subst (λ (s : ℕ). Journey table s d of.0 t n.arrival) same of.1.0,
          elim of.1.1 [ inl e ↦ inl e | inr c ↦ inr (has (pattern table of.0) c) ],
        ),
        of.2,
      )

  pub agrees_by : (d : ℕ) → Agrees table tree k d t
  agrees_by d n ridden =
      same_best (TreeReaches table tree t d) (Reaches table 0 k tree.source t d) (tree_within table tree k d t short) (has_all d) n
