-- What is answered from the trees of several sources.
use Rattle.std.proofs.Common.{Option, ◌≡◌, ℕ, suc, ◌+◌, ◌<◌, List, [], ◌∷◌, ◌++◌, length, map, take, get_or, Some, None, IsSomeAnd, Contains, All, arith, refl, sym, ◌∙◌, ap, subst, inl, inr, le_trans}
use Rattle.std.proofs.lemmas.List.{take_more}
use Rattle.std.proofs.lemmas.Bool.{cases_lt}
use Rattle.std.proofs.lemmas.List.Elements.{All-push, at_from_Contains, Contains-get_or}
use Rattle.timetable.specs.declared.parts.Numbers.{Numbers}
use Rattle.timetable.specs.Table.{Table}
use Rattle.timetable.specs.Journeys.{Reaches, Unbeaten}
use Rattle.pattern_tree.specs.Content.{Content}
use Rattle.timetable.specs.Front.{AreBest}
use Rattle.pattern_query.specs.Answer.{PointData, numbers, IsPoint}
use Rattle.pattern_query.specs.BestSoFar.{at, ThereBy, AreChosen}
use Rattle.pattern_query.proofs.SlotSteps.{none_some}
use Rattle.pattern_query.specs.Leaving.{IsLatest, LeavesLast}
use Rattle.pattern_query.proofs.Best.{best_chosen, best_of_all, numbers_in}
use Rattle.pattern_query.proofs.LastSteps.{later_point, leaves_no_earlier}
use Rattle.pattern_query.proofs.TreeSteps.{few_rides, has_best}
use Rattle.pattern_query.specs.Gathered.{AddsAsked}
use Rattle.pattern_query.specs.Questions.{Held, IsStored, IsAsked, AskedReaches, IsAskedPoint, ReachesBetween, AreComplete}

pub stored_more : (held : Held) (froms : List ℕ) (n s : ℕ) (tree : Content) → n < length froms → s ≡ get_or froms n s → held s ≡ Some tree → tree.source ≡ s
    → All (IsStored held) (take n froms) → All (IsStored held) (take (n + 1) froms)
stored_more held froms n s tree in' is holds source were =
    let e : take (n + 1) froms ≡ take n froms ++ s ∷ [] = take_more froms n s in' ∙ ap (λ x. take n froms ++ x ∷ []) (sym is) in
    subst (λ l. All (IsStored held) l) (sym e) (All-push (IsStored held) (take n froms) s were (subst (λ o. IsSomeAnd o (λ tree. tree.source ≡ s)) (sym holds) source))

the_tree : (s : ℕ) (o : Option Content) → IsSomeAnd o (λ tree. tree.source ≡ s) → (tree : Content) × (o ≡ Some tree) × (tree.source ≡ s)
the_tree s None h = absurd h
the_tree s (Some tree) h = (tree, refl, h)

module _ (table : Table) (held : Held) (froms tos : List ℕ) (d : ℕ) (start slots : List (Option PointData)) (points : List PointData)
    (none : (r : ℕ) → at start r ≡ None) (added : AddsAsked table (IsAsked held froms tos) d start slots) (chosen : AreChosen slots points) where
  is_point : (r : ℕ) (p : PointData) → at slots r ≡ Some p → (p.rides ≡ r) × IsAskedPoint table held froms tos d p
  is_point r p e = elim (added.attained r p e) [ inl was ↦ absurd (none_some p (sym (none r) ∙ was)) | inr is ↦ (is.0, (is.1, is.2, is.3)) ]

  pub points_are : All (IsAskedPoint table held froms tos d) points
  points_are k p in' = (is_point (get_or points k p).rides (get_or points k p) (chosen.each k p in').0).1

  pub best_are : AreBest (AskedReaches table held froms tos d) (map numbers points)
  best_are = best_chosen (AskedReaches table held froms tos d) slots points
      (λ r p e. let is = is_point r p e in ((is.1.0, p.to, is.1.1, (p.legs, (is.1.2.is.journey, is.1.2.has), is.1.2.is.counted)), is.0))
      (λ n of. subst (λ r. ThereBy slots (suc r) n.arrival) of.3.2 (added.least of.0 of.1 of.3.0 n.arrival of.2 of.3.1)) chosen

-- if the trees are complete
module _ (table : Table) (held : Held) (froms tos : List ℕ) (d : ℕ) (stored : All (IsStored held) froms) (k : ℕ) (complete : AreComplete table held k froms) where
  within : (n : Numbers) → AskedReaches table held froms tos d n → ReachesBetween table k froms tos d n
  within n of =
      let tree = of.0 in let t = of.1 in
      let c = complete tree.source tree of.2.0 of.2.1 in
      (tree.source, t, of.2.0, of.2.2, few_rides table tree t d k c.complete c.short n of.3)

  pub tree_of : (s : ℕ) → Contains froms s → (tree : Content) × (held s ≡ Some tree) × (tree.source ≡ s)
  tree_of s c =
      let i = at_from_Contains froms s c in
      the_tree s (held s) (subst (IsStored held) (i.2 s) (stored i.0 s i.1))

  has : (n : Numbers) → Unbeaten (ReachesBetween table k froms tos d) n → AskedReaches table held froms tos d n
  has n un =
      let s = un.0.0 in let t = un.0.1 in
      let h = tree_of s un.0.2 in
      let tree = h.0 in
      let same : s ≡ tree.source = sym h.2 in
      let from : Contains froms tree.source = subst (λ x. Contains froms x) same un.0.2 in
      let holds : held tree.source ≡ Some tree = subst (λ x. held x ≡ Some tree) same h.1 in
      let c = complete tree.source tree from holds in (
        tree,
        t,
        (from, holds, un.0.3),
        has_best table tree t d k c.complete n
            (subst (λ x. Reaches table 0 k x t d n) same un.0.4, λ m reaches. un.1 m (tree.source, t, from, un.0.3, reaches)),
      )

  pub exact_are : (points : List Numbers) → AreBest (AskedReaches table held froms tos d) points → AreBest (ReachesBetween table k froms tos d) points
  exact_are points best = best_of_all (AskedReaches table held froms tos d) (ReachesBetween table k froms tos d) points best within has

  -- one can't leave later
  pub latest_are : (points : List PointData) → All (IsAskedPoint table held froms tos d) points → AreBest (ReachesBetween table k froms tos d) (map numbers points)
      → All (LeavesLast table (IsAskedPoint table held froms tos d)) points → All (IsLatest (ReachesBetween table k froms tos)) points
  latest_are points are best last i x in' e of =
      let p = get_or points i x in
      let is = are i x in' in
      let un = best.each (numbers p) (numbers_in points p (Contains-get_or points i x in')) in
      elim (cases_lt p.departure e) [
        | inl lt ↦
            let after : d < e = (let a = is.2.is.after in omega (arith, a, lt)) in
            let h = tree_of of.0 of.2 in
            let tree = h.0 in
            let t = of.1 in
            let same : of.0 ≡ tree.source = sym h.2 in
            let from : Contains froms tree.source = subst (λ x. Contains froms x) same of.2 in
            let holds : held tree.source ≡ Some tree = subst (λ x. held x ≡ Some tree) same h.1 in
            let c = complete tree.source tree from holds in
            let q = later_point table tree t d k c.complete e (numbers p) after
            (λ m reaches. un.1 m (tree.source, t, from, of.3, reaches)) (subst (λ x. Reaches table 0 k x t e (numbers p)) same of.4) is.2.few in
            le_trans q.3 (leaves_no_earlier table p q.0 (last i x in' q.0
            (tree, (from, holds, subst (λ v. Contains tos v) (sym q.1.is.ends) of.3), subst (λ v. IsPoint table tree v d q.0) (sym q.1.is.ends) q.1) q.2))
        | inr le ↦ le
      ]
