-- How points are put in place of others that leave earlier, stop after stop and tree after tree.
use Rattle.std.proofs.Common.{Option, ◌≡◌, ℕ, suc, ◌+◌, ◌<◌, ◌⊎◌, List, [], ◌∷◌, ◌++◌, length, take, get_or, Some, None, Contains, sym, ◌∙◌, ap, subst, inl, inr}
use Rattle.std.proofs.lemmas.List.{take_more}
use Rattle.std.proofs.lemmas.List.Elements.{Contains-push, Contains-push_cases, Contains-append_left}
use Rattle.timetable.specs.Table.{Table}
use Rattle.pattern_tree.specs.Content.{Content}
use Rattle.pattern_query.specs.Answer.{PointData, IsPoint}
use Rattle.pattern_query.specs.BestSoFar.{at, IsSearched}
use Rattle.pattern_query.specs.Gathered.{AddsAsked, IsPointTo}
use Rattle.pattern_query.specs.Questions.{Held, IsAsked, IsAskedPoint}
use Rattle.pattern_query.specs.Leaving.{AreJourneys, LeaveLast}
use Rattle.pattern_query.proofs.SlotSteps.{none_some}
use Rattle.pattern_query.proofs.LeaveSteps.{there_still, twin, rides_is, leave_both, leave_as, journeys_still}

module _ (table : Table) (d : ℕ) where
  -- one stop more
  pub to_last : (tree : Content) (tos : List ℕ) (n t : ℕ) (start mid new : List (Option PointData)) → n < length tos → t ≡ get_or tos n t
      → LeaveLast table (IsPointTo table tree (take n tos) d) start mid → LeaveLast table (IsPoint table tree t d) mid new
      → LeaveLast table (IsPointTo table tree (take (n + 1) tos) d) start new
  to_last tree tos n t start mid new in' is first second =
      let e : take (n + 1) tos ≡ take n tos ++ t ∷ [] = take_more tos n t in' ∙ ap (λ x. take n tos ++ x ∷ []) (sym is) in
      leave_both table (IsPointTo table tree (take (n + 1) tos) d) (IsPointTo table tree (take n tos) d) (IsPoint table tree t d) start mid new first second
      (λ p of. elim (Contains-push_cases (take n tos) t p.to (subst (λ l. Contains l p.to) e of.0)) [
        | inl was ↦ inl (was, of.1)
        | inr here ↦ inr (subst (λ v. IsPoint table tree v d p) (sym here) of.1)
      ])
      (λ p of. (subst (λ l. Contains l p.to) (sym e) (Contains-append_left (take n tos) (t ∷ []) p.to of.0), of.1))
      (λ p of. (
        subst (λ l. Contains l p.to) (sym e) (subst (λ x. Contains (take n tos ++ t ∷ []) x) (sym of.is.ends) (Contains-push (take n tos) t)),
        subst (λ v. IsPoint table tree v d p) (sym of.is.ends) of,
      ))

  pub to_journeys : (tree : Content) (tos : List ℕ) (old new : List (Option PointData)) → LeaveLast table (IsPointTo table tree tos d) old new → AreJourneys table d old → AreJourneys table d new
  to_journeys tree tos old new leaves were =
      journeys_still table d (IsPointTo table tree tos d) old new leaves (λ p of. (tree.source, p.to, of.1.is)) were

  module _ (held : Held) (froms tos : List ℕ) (n s : ℕ) (in' : n < length froms) (is : s ≡ get_or froms n s) where
    more : take (n + 1) froms ≡ take n froms ++ s ∷ []
    more = take_more froms n s in' ∙ ap (λ x. take n froms ++ x ∷ []) (sym is)

    same : (u v : Content) → Some u ≡ Some v → u ≡ v
    same u v e = cc

    -- a tree of the stops is one of those before, or the next one's
    cases : (p : PointData) → IsAskedPoint table held (take (n + 1) froms) tos d p
        → IsAskedPoint table held (take n froms) tos d p ⊎ ((tree : Content) × (held s ≡ Some tree) × IsPointTo table tree tos d p)
    cases p of =
        let asked = of.1 in
        elim (Contains-push_cases (take n froms) s of.0.source (subst (λ l. Contains l of.0.source) more asked.0)) [
          | inl was ↦ inl (of.0, (was, asked.1, asked.2), of.2)
          | inr here ↦ inr (of.0, ap held here ∙ asked.1, (asked.2, of.2))
        ]

    kept : (p : PointData) → IsAskedPoint table held (take n froms) tos d p → IsAskedPoint table held (take (n + 1) froms) tos d p
    kept p of = (of.0, (subst (λ l. Contains l of.0.source) (sym more) (Contains-append_left (take n froms) (s ∷ []) of.0.source of.1.0), of.1.1, of.1.2), of.2)

    -- one source more
    pub source_last : (tree : Content) (start mid new : List (Option PointData)) → held s ≡ Some tree → tree.source ≡ s
        → LeaveLast table (IsAskedPoint table held (take n froms) tos d) start mid → LeaveLast table (IsPointTo table tree tos d) mid new
        → LeaveLast table (IsAskedPoint table held (take (n + 1) froms) tos d) start new
    source_last tree start mid new holds source first second =
        leave_both table (IsAskedPoint table held (take (n + 1) froms) tos d) (IsAskedPoint table held (take n froms) tos d) (IsPointTo table tree tos d) start mid new first second
        (λ p of. elim (cases p of) [
          | inl was ↦ inl was
          | inr here ↦ inr (subst (λ u. IsPointTo table u tos d p) (same here.0 tree (sym here.1 ∙ holds)) here.2)
        ])
        kept
        (λ p of. (
          tree,
          (
            subst (λ l. Contains l tree.source) (sym more) (subst (λ x. Contains (take n froms ++ s ∷ []) x) (sym source) (Contains-push (take n froms) s)),
            ap held source ∙ holds,
            of.0,
          ),
          of.1,
        ))

    -- its tree isn't there
    pub source_none : (start new : List (Option PointData)) → held s ≡ None → LeaveLast table (IsAskedPoint table held (take n froms) tos d) start new
        → LeaveLast table (IsAskedPoint table held (take (n + 1) froms) tos d) start new
    source_none start new none leaves =
        leave_as table (IsAskedPoint table held (take (n + 1) froms) tos d) (IsAskedPoint table held (take n froms) tos d) start new leaves
        (λ p of. elim (cases p of) [ inl was ↦ was | inr here ↦ absurd (none_some here.0 (sym none ∙ here.1)) ]) kept

  pub asked_still_journeys : (held : Held) (froms tos : List ℕ) (old new : List (Option PointData)) → LeaveLast table (IsAskedPoint table held froms tos d) old new → AreJourneys table d old → AreJourneys table d new
  asked_still_journeys held froms tos old new leaves were =
      journeys_still table d (IsAskedPoint table held froms tos d) old new leaves (λ p of. (of.0.source, p.to, of.2.is)) were

  -- the points that were found are journeys
  pub found_journeys : (held : Held) (froms tos : List ℕ) (start slots : List (Option PointData)) → ((r : ℕ) → at start r ≡ None) → AddsAsked table (IsAsked held froms tos) d start slots → AreJourneys table d slots
  found_journeys held froms tos start slots none added r p e = elim (added.attained r p e) [
    | inl was ↦ absurd (none_some p (sym (none r) ∙ was))
    | inr is ↦ (is.1.source, p.to, is.3.is)
  ]

  -- what was searched still is
  pub searched_still : (Of : PointData → Type 0) (tree : Content) (t : ℕ) (old new : List (Option PointData)) → LeaveLast table Of old new → IsSearched table tree t d old → IsSearched table tree t d new
  searched_still Of tree t old new leaves searched = λ legs z j. there_still old new leaves.same (suc (length legs)) z (searched legs z j)

  pub asked_still : (held : Held) (froms tos : List ℕ) (start old new : List (Option PointData)) → ((r : ℕ) → at start r ≡ None) → AddsAsked table (IsAsked held froms tos) d start old
      → LeaveLast table (IsAskedPoint table held froms tos d) old new → AddsAsked table (IsAsked held froms tos) d start new
  asked_still held froms tos start old new none added leaves = record {
    attained = λ r p e.
        let q = twin (at new r) (at old r) p (sym (leaves.same r)) e in
        let rides : q.0.rides ≡ r = elim (added.attained r q.0 q.1) [ inl was ↦ absurd (none_some q.0 (sym (none r) ∙ was)) | inr is ↦ is.0 ] in
        elim (leaves.attained r p e) [
          | inl was ↦ added.attained r p was
          | inr of ↦ inr (sym (rides_is q.0 p q.2) ∙ rides, of.0, of.1, of.2)
        ];
    kept = λ n a h. there_still old new leaves.same n a (added.kept n a h);
    least = λ tree t legs z asked j. there_still old new leaves.same (suc (length legs)) z (added.least tree t legs z asked j);
  }
