-- How searches of several trees add up.
use Rattle.std.proofs.Common.{Option, ◌≡◌, ℕ, suc, ◌+◌, ◌<◌, ◌⊎◌, List, [], ◌∷◌, ◌++◌, length, take, get_or, Some, Contains, arith, refl, sym, ◌∙◌, ap, subst, inl, inr}
use Rattle.std.proofs.lemmas.List.{take_more}
use Rattle.std.proofs.lemmas.List.Elements.{Contains-push, Contains-push_cases, Contains-append_left, at_from_Contains}
use Rattle.timetable.specs.Table.{Table}
use Rattle.pattern_tree.specs.Content.{Content}
use Rattle.pattern_query.specs.Answer.{PointData, TreeJourney, IsPoint}
use Rattle.pattern_query.specs.BestSoFar.{AddsTree}
use Rattle.pattern_query.specs.Gathered.{IsTo, AddsAsked}
use Rattle.pattern_query.specs.Questions.{Held, IsAsked}

pub in_none : {X : Type 0} (x : X) → Contains [] x → ⊥
in_none x c = let k = at_from_Contains [] x c in let b : ⊥ = omega (arith, k.1) in b

module _ (table : Table) (d : ℕ) where
  pub asked_none : (Asked : Content → ℕ → Type 0) → ((tree : Content) (t : ℕ) → ¬ Asked tree t) → (slots : List (Option PointData)) → AddsAsked table Asked d slots slots
  asked_none Asked none slots = record {
    attained = λ r p e. inl e;
    kept = λ n a h. h;
    least = λ tree t legs z asked j. absurd (none tree t asked);
  }

  pub asked_both : (P Q R : Content → ℕ → Type 0) (old mid new : List (Option PointData)) → AddsAsked table P d old mid → AddsAsked table Q d mid new
      → ((u : Content) (v : ℕ) → R u v → P u v ⊎ Q u v) → ((u : Content) (v : ℕ) → P u v → R u v) → ((u : Content) (v : ℕ) → Q u v → R u v)
      → AddsAsked table R d old new
  asked_both P Q R old mid new first second split left right = record {
    attained = λ r p e. elim (second.attained r p e) [
      | inl was ↦ elim (first.attained r p was) [
        | inl old' ↦ inl old'
        | inr is ↦ inr (is.0, is.1, left is.1 p.to is.2, is.3)
      ]
      | inr is ↦ inr (is.0, is.1, right is.1 p.to is.2, is.3)
    ];
    kept = λ n a h. second.kept n a (first.kept n a h);
    least = λ tree t legs z asked j. elim (split tree t asked) [
      | inl a ↦ second.kept (suc (length legs)) z (first.least tree t legs z a j)
      | inr b ↦ second.least tree t legs z b j
    ];
  }

  -- one tree and one stop
  pub asked_one : (tree : Content) (t : ℕ) (old new : List (Option PointData)) → AddsTree table tree t d old new → AddsAsked table (λ u v. (u ≡ tree) × (v ≡ t)) d old new
  asked_one tree t old new added = record {
    attained = λ r p e. elim (added.attained r p e) [
      | inl was ↦ inl was
      | inr is ↦ inr (is.0, tree, (refl, is.1.is.ends), subst (λ v. IsPoint table tree v d p) (sym is.1.is.ends) is.1)
    ];
    kept = added.kept;
    least = λ u v legs z asked j.
        added.least legs z (subst (λ v. TreeJourney table tree v d legs z) asked.1 (subst (λ u. TreeJourney table u v d legs z) asked.0 j));
  }

  -- one stop more
  pub to_more : (tree : Content) (tos : List ℕ) (n t : ℕ) (start mid new : List (Option PointData)) → n < length tos → t ≡ get_or tos n t
      → AddsAsked table (IsTo tree (take n tos)) d start mid → AddsTree table tree t d mid new → AddsAsked table (IsTo tree (take (n + 1) tos)) d start new
  to_more tree tos n t start mid new in' is first added =
      let e : take (n + 1) tos ≡ take n tos ++ t ∷ [] = take_more tos n t in' ∙ ap (λ x. take n tos ++ x ∷ []) (sym is) in
      asked_both (IsTo tree (take n tos)) (λ u v. (u ≡ tree) × (v ≡ t)) (IsTo tree (take (n + 1) tos)) start mid new first (asked_one tree t mid new added)
      (λ u v h. elim (Contains-push_cases (take n tos) t v (subst (λ l. Contains l v) e h.1)) [ inl was ↦ inl (h.0, was) | inr here ↦ inr (h.0, sym here) ])
      (λ u v h. (h.0, subst (λ l. Contains l v) (sym e) (Contains-append_left (take n tos) (t ∷ []) v h.1)))
      (λ u v h. (h.0, subst (λ l. Contains l v) (sym e) (subst (λ x. Contains (take n tos ++ t ∷ []) x) (sym h.1) (Contains-push (take n tos) t))))

  -- one source more
  pub source_more : (held : Held) (froms tos : List ℕ) (n s : ℕ) (tree : Content)
      (start mid new : List (Option PointData)) → n < length froms → s ≡ get_or froms n s → held s ≡ Some tree → tree.source ≡ s
      → AddsAsked table (IsAsked held (take n froms) tos) d start mid → AddsAsked table (IsTo tree tos) d mid new → AddsAsked table (IsAsked held (take (n + 1) froms) tos) d start new
  source_more held froms tos n s tree start mid new in' is holds source first second =
      let e : take (n + 1) froms ≡ take n froms ++ s ∷ [] = take_more froms n s in' ∙ ap (λ x. take n froms ++ x ∷ []) (sym is) in
      asked_both (IsAsked held (take n froms) tos) (IsTo tree tos) (IsAsked held (take (n + 1) froms) tos) start mid new first second
      (λ u v h. elim (Contains-push_cases (take n froms) s u.source (subst (λ l. Contains l u.source) e h.0)) [
        | inl was ↦ inl (was, h.1, h.2)
        | inr here ↦ inr (same u tree (sym h.1 ∙ ap held (sym here) ∙ holds), h.2)
      ])
      (λ u v h. (subst (λ l. Contains l u.source) (sym e) (Contains-append_left (take n froms) (s ∷ []) u.source h.0), h.1, h.2))
      (λ u v h. (
        subst (λ l. Contains l u.source) (sym e)
            (subst (λ x. Contains (take n froms ++ s ∷ []) x) (sym (ap (λ (c : Content). c.source) h.0 ∙ source)) (Contains-push (take n froms) s)),
        ap held (ap (λ (c : Content). c.source) h.0 ∙ source) ∙ holds ∙ ap (λ (c : Content). Some c) (sym h.0),
        h.1,
      )) where
        same : (u v : Content) → Some u ≡ Some v → u ≡ v
        same u v e = cc
