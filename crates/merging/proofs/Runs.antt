-- A merge that goes on.
use Rattle.std.proofs.Common.{◌≡◌, ◌==◌, ◌||◌, ◌⊎◌, inl, inr, ℕ, zero, suc, ◌+◌, ◌<◌, ◌≤◌, Bool, true, false, cond, List, [], ◌∷◌, ◌++◌, Option, None, Some, ◌-◌, length, take, drop, refl, sym, ◌∙◌, ap, subst, arith, length-append, eq-eqb, take-append-drop}
use Rattle.std.proofs.lemmas.Bool.{cases_lt}
use Rattle.std.proofs.lemmas.List.{map-append, take-append-le, take_all, take_at}
use Rattle.std.proofs.lemmas.List.Folds.{list_any-append}
use mathlib.Core.List.{IsPrefix}
use Rattle.pattern_tree.specs.Content.{Content}
use Rattle.section_store.specs.Sections.{sources}
use Rattle.section_store.specs.Sources.{is_among}
use Rattle.merging.specs.Merging.{lacked, merged, tree_of, with_next}
use Rattle.merging.proofs.Finding.{found_source}
use Rattle.merging.proofs.MergeFacts.{lacked_found, one_more, starts}

-- a list with one tree more has its stop, and all others that it had
among_more : (list : List Content) (t : Content) (k : ℕ) → is_among k (sources (list ++ t ∷ [])) ≡ (is_among k (sources list) || ((t.source == k) || false))
among_more list t k =
    ap (is_among k) (map-append (λ (c : Content). c.source) list (t ∷ []))
    ∙ list_any-append (λ other. other == k) (sources list) (t.source ∷ [])

or_true : (b : Bool) → (b || (true || false)) ≡ true
or_true true = refl
or_true false = refl

lacks_none : (list all : List Content) (t : Content) (k : ℕ) → lacked list all k ≡ None → lacked (list ++ t ∷ []) all k ≡ None
lacks_none list all t k none =
    ap (λ (b : Bool). cond b None (tree_of all k)) (among_more list t k) ∙ by (is_among k (sources list)) refl ((t.source == k) || false) where
      either : (b : Bool) (o : Option Content) → o ≡ None → cond b None o ≡ None
      either true o is = refl
      either false o is = is

      by : (b : Bool) → is_among k (sources list) ≡ b → (c : Bool) → cond (b || c) None (tree_of all k) ≡ None
      by true is c = refl
      by false is c = either c (tree_of all k) (sym (ap (λ (b : Bool). cond b None (tree_of all k)) is) ∙ none)

has_own : (list all : List Content) (t : Content) (k : ℕ) → t.source ≡ k → lacked (list ++ t ∷ []) all k ≡ None
has_own list all t k is =
    ap (λ (b : Bool). cond b None (tree_of all k))
    (among_more list t k ∙ ap (λ (b : Bool). is_among k (sources list) || (b || false)) (eq-eqb t.source k is) ∙ or_true (is_among k (sources list)))

module _ (before all : List Content) where
  -- of the stops below a number that were gone over nothing is lacked
  settled : (m k : ℕ) → k < m → lacked (merged before all m) all k ≡ None
  settled zero k below = absurd (let no : ⊥ = omega (arith, below) in no)
  settled (suc m) k below =
      let on : suc m ≡ m + 1 = omega arith in
      let more = ap (λ n. lacked (merged before all n) all k) on ∙ ap (λ (l : List Content). lacked l all k) (one_more before all m) in
      more ∙ step (settled m k) (lacked (merged before all m) all m) refl (cases_lt k m) where
        step : (k < m → lacked (merged before all m) all k ≡ None) → (o : Option Content) → lacked (merged before all m) all m ≡ o → (k < m) ⊎ (m ≤ k)
            → lacked (with_next (merged before all m) (lacked (merged before all m) all m)) all k ≡ None
        step so_far None is (inl less) = ap (λ (x : Option Content). lacked (with_next (merged before all m) x) all k) is ∙ so_far less
        step so_far (Some t) is (inl less) =
            ap (λ (x : Option Content). lacked (with_next (merged before all m) x) all k) is ∙ lacks_none (merged before all m) all t k (so_far less)
        step so_far None is (inr last) =
            let same : m ≡ k = omega (arith, last, below) in
            ap (λ (x : Option Content). lacked (with_next (merged before all m) x) all k) is ∙ ap (lacked (merged before all m) all) (sym same) ∙ is
        step so_far (Some t) is (inr last) =
            let same : m ≡ k = omega (arith, last, below) in
            ap (λ (x : Option Content). lacked (with_next (merged before all m) x) all k) is
            ∙ has_own (merged before all m) all t k (found_source all m t (lacked_found (merged before all m) all m t is) ∙ same)

  -- so they add nothing
  nothing_more : (m k : ℕ) → k ≤ m → merged (merged before all m) all k ≡ merged before all m
  nothing_more m zero le = starts (merged before all m) all
  nothing_more m (suc k) le =
      let on : suc k ≡ k + 1 = omega arith in
      let so_far = nothing_more m k (omega (arith, le)) in
      ap (merged (merged before all m) all) on
      ∙ one_more (merged before all m) all k
      ∙ ap (λ (l : List Content). with_next l (lacked l all k)) so_far
      ∙ ap (with_next (merged before all m)) (settled m k (omega (arith, le)))

  on_from : (m extra : ℕ) → merged (merged before all m) all (m + extra) ≡ merged before all (m + extra)
  on_from m zero =
      let here : m + zero ≡ m = omega arith in
      ap (merged (merged before all m) all) here ∙ nothing_more m m (omega arith) ∙ ap (merged before all) (sym here)
  on_from m (suc extra) =
      let on : m + suc extra ≡ m + extra + 1 = omega arith in
      ap (merged (merged before all m) all) on
      ∙ one_more (merged before all m) all (m + extra)
      ∙ ap (λ (l : List Content). with_next l (lacked l all (m + extra))) (on_from m extra)
      ∙ sym (one_more before all (m + extra))
      ∙ ap (merged before all) (sym on)

  -- a front that has the old list is the list of fewer stops
  same_front : (a b : List Content) → IsPrefix a b → IsPrefix b a → a ≡ b
  same_front a b one other =
      let long : length a ≤ length b = omega (arith, ap length one.1, length-append a one.0) in
      let short : length b ≤ length a = omega (arith, ap length other.1, length-append b other.0) in
      sym (take_at a one.0 (length a) refl) ∙ ap (take (length a)) one.1 ∙ take_all (length a) b short

  reached : (n : ℕ) (front : List Content) → IsPrefix before front → IsPrefix front (merged before all n) → (m : ℕ) × (m ≤ n) × (front ≡ merged before all m)
  reached zero front begins is =
      (0, omega arith, same_front front before (subst (IsPrefix front) (starts before all) is) begins ∙ sym (starts before all))
  reached (suc n) front begins is =
      let on : suc n ≡ n + 1 = omega arith in
      step (reached n front begins) (lacked (merged before all n) all n)
      (subst (IsPrefix front) (ap (merged before all) on ∙ one_more before all n) is)
      (ap (merged before all) on ∙ one_more before all n) where
        later : (m : ℕ) × (m ≤ n) × (front ≡ merged before all m) → (m : ℕ) × (m ≤ suc n) × (front ≡ merged before all m)
        later r = (r.0, omega (arith, r.1), r.2)

        step : (IsPrefix front (merged before all n) → (m : ℕ) × (m ≤ n) × (front ≡ merged before all m)) → (o : Option Content) → IsPrefix front (with_next (merged before all n) o) → merged before all (suc n) ≡ with_next (merged before all n) o
            → (m : ℕ) × (m ≤ suc n) × (front ≡ merged before all m)
        step before_this None is whole = later (before_this is)
        step before_this (Some t) is whole = elim (cases_lt (length (merged before all n)) (length front)) [
          | inl all_of ↦
              let list = merged before all n ++ t ∷ [] in
              let full : length list ≤ length front = omega (arith, all_of, length-append (merged before all n) (t ∷ [])) in (
                suc n,
                omega arith,
                sym (take_at front is.0 (length front) refl) ∙ ap (take (length front)) is.1 ∙ take_all (length front) list full ∙ sym whole,
              )
          | inr less ↦
              let here : take (length front) (merged before all n) ≡ front =
              sym (take-append-le (length front) (merged before all n) (t ∷ []) less) ∙ sym (ap (take (length front)) is.1) ∙ take_at front is.0 (length front) refl in
              later (before_this (
                drop (length front) (merged before all n),
                ap (λ (l : List Content). l ++ drop (length front) (merged before all n)) (sym here) ∙ take-append-drop (length front) (merged before all n),
              ))
        ]

-- whatever a stop leaves, the merge goes on to the same list
pub runs_again_lem : (before all front : List Content) (stops : ℕ) → IsPrefix before front → IsPrefix front (merged before all stops)
    → merged front all stops ≡ merged before all stops
runs_again_lem before all front stops begins is =
    let r = reached before all stops front begins is in
    let on : r.0 + (stops - r.0) ≡ stops = omega (arith, r.1) in
    ap (λ (l : List Content). merged l all stops) r.2
    ∙ subst (λ n. merged (merged before all r.0) all n ≡ merged before all n) on (on_from before all r.0 (stops - r.0))
