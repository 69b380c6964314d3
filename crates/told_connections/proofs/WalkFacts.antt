-- The shortest way on foot, stop by stop.
use Rattle.std.proofs.Common.{Option, Some, None, ◌≡◌, ℕ, ◌+◌, ◌<◌, ◌≤◌, ◌⊎◌, List, [], ◌∷◌, ◌++◌, length, take, get_or, arith, refl, sym, ◌∙◌, ap, subst, inl, inr}
use Rattle.std.specs.List.{Contains}
use Rattle.std.proofs.lemmas.List.{take_more}
use Rattle.std.proofs.lemmas.List.Elements.{Contains-append_left, Contains-push, Contains-push_cases, at_from_Contains}
use Rattle.timetable.specs.Journeys.{IsLeast, foot}
use Rattle.timetable.specs.Table.{Table}
use Rattle.told_connections.specs.Windows.{IsWalk}

no_some : (x : ℕ) → None ≡ Some x → ⊥
no_some x e = cc

some_same : (a x : ℕ) → Some a ≡ Some x → a ≡ x
some_same a x e = cc

in_none : (x : ℕ) → Contains [] x → ⊥
in_none x c = let k = at_from_Contains [] x c in let b : ⊥ = omega (arith, k.1) in b

-- what is in the set isn't below the least
least_there : (P : ℕ → Type 0) (o : Option ℕ) (x : ℕ) → IsLeast P o → P x → (a : ℕ) × (o ≡ Some a) × (a ≤ x)
least_there P None x l p = absurd (l x p)
least_there P (Some a) x l p = (a, refl, l.1 x p)

least_is : (P : ℕ → Type 0) (o : Option ℕ) (x : ℕ) → IsLeast P o → o ≡ Some x → P x
least_is P None x l e = absurd (no_some x e)
least_is P (Some a) x l e = subst P (some_same a x e) l.0

-- the least of two sets
module _ (P Q R : ℕ → Type 0) (one other : Option ℕ) (first : IsLeast P one) (second : IsLeast Q other)
    (split : (x : ℕ) → R x → P x ⊎ Q x) (left : (x : ℕ) → P x → R x) (right : (x : ℕ) → Q x → R x) where
  pub least_both : (result : Option ℕ) → ((a : ℕ) → one ≡ Some a → (x : ℕ) × (result ≡ Some x) × (x ≤ a))
      → ((b : ℕ) → other ≡ Some b → (x : ℕ) × (result ≡ Some x) × (x ≤ b))
      → ((x : ℕ) → result ≡ Some x → (one ≡ Some x) ⊎ (other ≡ Some x)) → IsLeast R result
  least_both None by_one by_other either = λ x r. elim (split x r) [
    | inl p ↦ (let a = least_there P one x first p in let f = by_one a.0 a.1 in no_some f.0 f.1)
    | inr q ↦ (let b = least_there Q other x second q in let f = by_other b.0 b.1 in no_some f.0 f.1)
  ]
  least_both (Some c) by_one by_other either = (
    elim (either c refl) [ inl e ↦ left c (least_is P one c first e) | inr e ↦ right c (least_is Q other c second e) ],
    λ x r. elim (split x r) [
      | inl p ↦
          let a = least_there P one x first p in
          let f = by_one a.0 a.1 in
          let same = some_same c f.0 f.1 in
          let le = f.2 in
          let most = a.2 in
          let z : c ≤ x = omega (arith, same, le, most) in z
      | inr q ↦
          let b = least_there Q other x second q in
          let f = by_other b.0 b.1 in
          let same = some_same c f.0 f.1 in
          let le = f.2 in
          let most = b.2 in
          let z : c ≤ x = omega (arith, same, le, most) in z
    ],
  )

-- one number by itself
pub least_one : (o : Option ℕ) → IsLeast (λ w. o ≡ Some w) o
least_one None = λ x e. no_some x e
least_one (Some a) = (refl, λ x e. (let same = some_same a x e in let z : a ≤ x = omega (arith, same) in z))

-- a set of what stops have
module _ (Has : ℕ → ℕ → Type 0) where
  abbrev pub Of : List ℕ → ℕ → Type 0
  Of stops w = (s : ℕ) × Contains stops s × Has s w

  pub least_none : IsLeast (Of []) None
  least_none = λ x of. in_none of.0 of.1

  -- one stop more
  pub least_more : (stops : List ℕ) (n s : ℕ) (old new result : Option ℕ) → n < length stops → s ≡ get_or stops n s
      → IsLeast (Of (take n stops)) old → IsLeast (Has s) new
      → ((a : ℕ) → old ≡ Some a → (x : ℕ) × (result ≡ Some x) × (x ≤ a)) → ((b : ℕ) → new ≡ Some b → (x : ℕ) × (result ≡ Some x) × (x ≤ b))
      → ((x : ℕ) → result ≡ Some x → (old ≡ Some x) ⊎ (new ≡ Some x)) → IsLeast (Of (take (n + 1) stops)) result
  least_more stops n s old new result in' is first second by_one by_other either =
      let longer : take (n + 1) stops ≡ take n stops ++ s ∷ [] = take_more stops n s in' ∙ ap (λ x. take n stops ++ x ∷ []) (sym is) in
      least_both (Of (take n stops)) (Has s) (Of (take (n + 1) stops)) old new first second
      (λ x of. elim (Contains-push_cases (take n stops) s of.0 (subst (λ l. Contains l of.0) longer of.1)) [
        | inl was ↦ inl (of.0, was, of.2)
        | inr here ↦ inr (subst (λ y. Has y x) (sym here) of.2)
      ])
      (λ x of. (of.0, subst (λ l. Contains l of.0) (sym longer) (Contains-append_left (take n stops) (s ∷ []) of.0 of.1), of.2))
      (λ x has. (s, subst (λ l. Contains l s) (sym longer) (Contains-push (take n stops) s), has))
      result by_one by_other either

-- the walks from several stops
module _ (table : Table) (tos : List ℕ) where
  pub walks_none : IsLeast (IsWalk table [] tos) None
  walks_none = λ x of. in_none of.0 of.1

  pub walks_more : (froms : List ℕ) (n s : ℕ) (old new result : Option ℕ) → n < length froms → s ≡ get_or froms n s
      → IsLeast (IsWalk table (take n froms) tos) old → IsLeast (λ w. (t : ℕ) × Contains tos t × (foot table s t ≡ Some w)) new
      → ((a : ℕ) → old ≡ Some a → (x : ℕ) × (result ≡ Some x) × (x ≤ a)) → ((b : ℕ) → new ≡ Some b → (x : ℕ) × (result ≡ Some x) × (x ≤ b))
      → ((x : ℕ) → result ≡ Some x → (old ≡ Some x) ⊎ (new ≡ Some x)) → IsLeast (IsWalk table (take (n + 1) froms) tos) result
  walks_more froms n s old new result in' is first second by_one by_other either =
      let longer : take (n + 1) froms ≡ take n froms ++ s ∷ [] = take_more froms n s in' ∙ ap (λ x. take n froms ++ x ∷ []) (sym is) in
      least_both (IsWalk table (take n froms) tos) (λ w. (t : ℕ) × Contains tos t × (foot table s t ≡ Some w)) (IsWalk table (take (n + 1) froms) tos) old new first second
      (λ x of. elim (Contains-push_cases (take n froms) s of.0 (subst (λ l. Contains l of.0) longer of.1)) [
        | inl was ↦ inl (of.0, was, of.2, of.3, of.4)
        | inr here ↦ inr (of.2, of.3, subst (λ y. foot table y of.2 ≡ Some x) (sym here) of.4)
      ])
      (λ x of. (of.0, subst (λ l. Contains l of.0) (sym longer) (Contains-append_left (take n froms) (s ∷ []) of.0 of.1), of.2, of.3, of.4))
      (λ x has. (s, subst (λ l. Contains l s) (sym longer) (Contains-push (take n froms) s), has.0, has.1, has.2))
      result by_one by_other either
