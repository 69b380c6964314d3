-- Lists of the best numbers, compared.
use Rattle.std.proofs.Common.{◌≡◌, ◌↔◌, ◌⊎◌, ℕ, suc, ◌<◌, ◌≤◌, Bool, true, false, IsTrue, List, [], ◌∷◌, filter, nat_lt, cond, AllPairs, arith, refl, sym, ◌∙◌, ap, subst, inl, inr}
use Rattle.std.proofs.lemmas.Bool.{lt-ltb, ltb-true}
use Rattle.std.proofs.lemmas.List.Kept.{AllPairs-filter}
use Rattle.timetable.specs.declared.parts.Numbers.{Numbers}
use Rattle.timetable.specs.Front.{AreFront, AreBest}
use Rattle.timetable.specs.Table.{Table}
use Rattle.pattern_tree.specs.Content.{Content}
use Rattle.pattern_tree.specs.Paths.{IsIn}
use Rattle.pattern_tree.proofs.PairFacts.{contains_in, in_contains}
use Rattle.pattern_query.specs.Answer.{TreeReaches}
use Rattle.auditing.specs.Audits.{Agrees}
use Rattle.auditing.specs.Comparing.{ridden}

-- the rides of each are fewer than those of all after it
abbrev pub Rising : List Numbers → Type 0
Rising xs = AllPairs (λ a b. a.rides < b.rides) xs

rising_tail : (x : Numbers) (xs : List Numbers) → Rising (x ∷ xs) → Rising xs
rising_tail x xs r i j d lt within = r (suc i) (suc j) d (omega (arith, lt)) (omega (arith, within))

rising_head : (x : Numbers) (xs : List Numbers) → Rising (x ∷ xs) → (n : Numbers) → IsIn n xs → x.rides < n.rides
rising_head x [] r n h = absurd h
rising_head x (y ∷ ys) r n (inl e) = subst (λ (m : Numbers). x.rides < m.rides) (sym e) (r 0 1 x (omega arith) (omega arith))
rising_head x (y ∷ ys) r n (inr later) =
    let one : x.rides < y.rides = r 0 1 x (omega arith) (omega arith) in
    let two = rising_head y ys (rising_tail x (y ∷ ys) r) n later in
    omega (arith, one, two)

-- rising lists of the same numbers are one list
same_list : (xs ys : List Numbers) → Rising xs → Rising ys → ((n : Numbers) → IsIn n xs → IsIn n ys) → ((n : Numbers) → IsIn n ys → IsIn n xs) → xs ≡ ys
same_list [] [] rx ry there back = refl
same_list [] (y ∷ ys) rx ry there back = absurd (back y (inl refl))
same_list (x ∷ xs) [] rx ry there back = absurd (there x (inl refl))
same_list (x ∷ xs) (y ∷ ys) rx ry there back = go (there x (inl refl)) (back y (inl refl)) (λ e.
    same_list xs ys (rising_tail x xs rx) (rising_tail y ys ry)
    (λ n in'. elim (there n (inr in')) [
      | inl is ↦ absurd (let lt = rising_head x xs rx n in' in let s : n.rides ≡ x.rides = ap (λ (m : Numbers). m.rides) (is ∙ sym e) in omega (arith, lt, s))
      | inr later ↦ later
    ])
    (λ n in'. elim (back n (inr in')) [
      | inl is ↦ absurd (let lt = rising_head y ys ry n in' in let s : n.rides ≡ y.rides = ap (λ (m : Numbers). m.rides) (is ∙ e) in omega (arith, lt, s))
      | inr later ↦ later
    ])) where
      joined : (x ≡ y → xs ≡ ys) → x ≡ y → ◌≡◌ {A = List Numbers} (x ∷ xs) (y ∷ ys)
      joined tails e = ap (λ (n : Numbers). n ∷ xs) e ∙ ap (λ (l : List Numbers). y ∷ l) (tails e)

      go : (x ≡ y) ⊎ IsIn x ys → (y ≡ x) ⊎ IsIn y xs → (x ≡ y → xs ≡ ys) → ◌≡◌ {A = List Numbers} (x ∷ xs) (y ∷ ys)
      go (inl e) other tails = joined tails e
      go (inr later) (inl e) tails = joined tails (sym e)
      go (inr later) (inr earlier) tails =
          let one = rising_head y ys ry x later in
          let two = rising_head x xs rx y earlier in
          absurd (omega (arith, one, two))

-- what a test lets through
kept_here : {X : Type 0} (b : Bool) (x : X) (l : List X) → b ≡ true → IsIn x (cond b (x ∷ l) l)
kept_here true x l e = inl refl
kept_here false x l e = absurd cc

kept_later : {X : Type 0} (b : Bool) (x n : X) (l : List X) → IsIn n l → IsIn n (cond b (x ∷ l) l)
kept_later true x n l h = inr h
kept_later false x n l h = h

kept_cases : {X : Type 0} (b : Bool) (x n : X) (l : List X) → IsIn n (cond b (x ∷ l) l) → ((n ≡ x) × (b ≡ true)) ⊎ IsIn n l
kept_cases true x n l (inl e) = inl (e, refl)
kept_cases true x n l (inr h) = inr h
kept_cases false x n l h = inr h

in_filter : {X : Type 0} (p : X → Bool) (n : X) (xs : List X) → IsIn n xs → p n ≡ true → IsIn n (filter p xs)
in_filter p n [] h passes = absurd h
in_filter {X} p n (x ∷ xs) (inl e) passes =
    subst (λ (y : X). IsIn y (filter p (x ∷ xs))) (sym e) (kept_here (p x) x (filter p xs) (ap p (sym e) ∙ passes))
in_filter p n (x ∷ xs) (inr h) passes = kept_later (p x) x n (filter p xs) (in_filter p n xs h passes)

filter_in : {X : Type 0} (p : X → Bool) (n : X) (xs : List X) → IsIn n (filter p xs) → IsIn n xs
filter_in p n [] h = absurd h
filter_in p n (x ∷ xs) h = elim (kept_cases (p x) x n (filter p xs) h) [
  | inl here ↦ inl here.0
  | inr later ↦ inr (filter_in p n xs later)
]

filter_passes_in : {X : Type 0} (p : X → Bool) (n : X) (xs : List X) → IsIn n (filter p xs) → p n ≡ true
filter_passes_in p n [] h = absurd h
filter_passes_in p n (x ∷ xs) h = elim (kept_cases (p x) x n (filter p xs) h) [
  | inl here ↦ ap p here.0 ∙ here.1
  | inr later ↦ filter_passes_in p n xs later
]

some_ride : (r : ℕ) → nat_lt 0 r ≡ true → 1 ≤ r
some_ride r e = ltb-true 0 r e

has_ride : (r : ℕ) → 1 ≤ r → nat_lt 0 r ≡ true
has_ride r lt = lt-ltb 0 r lt

abbrev pub is_ridden : Numbers → Bool
is_ridden n = nat_lt 0 n.rides

-- the best numbers of the tree's journeys and those of all journeys, of one ride or more, are one list exactly if the answers agree
module _ (table : Table) (tree : Content) (k t d : ℕ) (asked found : List Numbers) (best : AreBest (TreeReaches table tree t d) asked)
    (front : AreFront table k tree.source t d found) where
  agree_of : ridden asked ≡ ridden found → Agrees table tree k d t
  agree_of same n some = (
    λ un.
        let here = in_filter is_ridden n asked (contains_in n asked (best.all n un)) (has_ride n.rides some) in
        front.each n (in_contains n found (filter_in is_ridden n found (subst (λ (l : List Numbers). IsIn n l) same here))),
    λ un.
        let here = in_filter is_ridden n found (contains_in n found (front.all n un)) (has_ride n.rides some) in
        best.each n (in_contains n asked (filter_in is_ridden n asked (subst (λ (l : List Numbers). IsIn n l) (sym same) here))),
  )

  same_of : Agrees table tree k d t → ridden asked ≡ ridden found
  same_of agrees = same_list (ridden asked) (ridden found)
      (AllPairs-filter (λ a b. a.rides < b.rides) is_ridden asked best.rising) (AllPairs-filter (λ a b. a.rides < b.rides) is_ridden found front.rising)
      (λ n in'.
      let some = some_ride n.rides (filter_passes_in is_ridden n asked in') in
      let un = (agrees n some).0 (best.each n (in_contains n asked (filter_in is_ridden n asked in'))) in
      in_filter is_ridden n found (contains_in n found (front.all n un)) (has_ride n.rides some))
      (λ n in'.
      let some = some_ride n.rides (filter_passes_in is_ridden n found in') in
      let un = (agrees n some).1 (front.each n (in_contains n found (filter_in is_ridden n found in'))) in
      in_filter is_ridden n asked (contains_in n asked (best.all n un)) (has_ride n.rides some))

  pub compared : (yes' : Bool) → IsTrue yes' ↔ (ridden asked ≡ ridden found) → IsTrue yes' ↔ Agrees table tree k d t
  compared yes' is = (λ h. agree_of (is.0 h), λ h. is.1 (same_of h))
