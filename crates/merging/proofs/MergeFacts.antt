-- The merged list, one number more.
use Rattle.std.proofs.Common.{◌≡◌, ◌==◌, ◌||◌, ℕ, zero, suc, ◌+◌, ◌-◌, ◌<◌, ◌≤◌, Bool, true, false, cond, List, [], ◌∷◌, ◌++◌, Option, None, Some, All, append-nil, refl, sym, ◌∙◌, ap, subst, arith}
use Rattle.std.specs.List.{cons_option, filter_map, range_with_len}
use Rattle.std.proofs.lemmas.List.{append_assoc, map-append}
use Rattle.std.proofs.lemmas.List.Elements.{All-head, All-tail, filter_map-append}
use Rattle.std.proofs.lemmas.List.Folds.{list_any-append}
use Rattle.std.proofs.lemmas.List.FromFn.{length-range_with_len, get_or-range_with_len}
use mathlib.Core.List.{IsPrefix}
use Rattle.pattern_tree.specs.Content.{Content}
use Rattle.section_store.specs.Sections.{sources}
use Rattle.section_store.specs.Sources.{is_among}
use Rattle.merging.specs.Merging.{lacked, merged, tree_of, with_next}
use Rattle.merging.specs.Laws.{Agree, AreAmong}
use Rattle.merging.proofs.Finding.{found_source, same_found}

last : (a n j : ℕ) → a + n ≡ j → range_with_len a (suc n) ≡ range_with_len a n ++ j ∷ []
last a zero j e = let same : a ≡ j = omega arith in ap (λ k. k ∷ []) same
last a (suc n) j e = ap (λ l. a ∷ l) (last (a + 1) n j (omega arith))

counting_more : (n : ℕ) → range_with_len 0 (n + 1) ≡ range_with_len 0 n ++ n ∷ []
counting_more n = let on : n + 1 ≡ suc n = omega arith in ap (range_with_len 0) on ∙ last 0 n n (omega arith)

all_below : (n : ℕ) → All (λ s. s < n) (range_with_len 0 n)
all_below n = λ k d within.
    let count = length-range_with_len 0 n in
    let below : k < n = omega (arith, within, count) in
    subst (λ m. m < n) (sym (get_or-range_with_len 0 n k d below)) (omega (arith, below))

with_next-is : (list : List Content) (o : Option Content) → with_next list o ≡ list ++ cons_option o []
with_next-is list None = sym (append-nil list)
with_next-is list (Some t) = refl

module _ (before all : List Content) where
  -- what is lacked and found has that source, and has what all trees have
  pub lacked_found : (stop : ℕ) (t : Content) → lacked before all stop ≡ Some t → tree_of all stop ≡ Some t
  lacked_found stop t is =
      let cases : (b : Bool) → cond b None (tree_of all stop) ≡ Some t → tree_of all stop ≡ Some t =
      λ b. elim b as (λ v. cond v None (tree_of all stop) ≡ Some t → tree_of all stop ≡ Some t) [ true ↦ λ h. absurd cc | false ↦ λ h. h ] in
      cases (is_among stop (sources before)) is

  -- the trees that are added for smaller numbers have other sources
  other : (a b : ℕ) → a < b → (a == b) ≡ false
  other a b less = grind arith

  onto : (s n : ℕ) → s < n → (rest : List Content) → is_among n (sources rest) ≡ false → (o : Option Content) → lacked before all s ≡ o
      → is_among n (sources (cons_option o rest)) ≡ false
  onto s n less rest others None e = others
  onto s n less rest others (Some t) e =
      let source : t.source ≡ s = found_source all s t (lacked_found s t e) in
      let apart : (t.source == n) ≡ false = other t.source n (omega (arith, less, source)) in
      ap (λ (b : Bool). b || is_among n (sources rest)) apart ∙ others

  others : (r : List ℕ) (n : ℕ) → All (λ s. s < n) r → is_among n (sources (filter_map (lacked before all) r)) ≡ false
  others [] n below = refl
  others (s ∷ r) n below =
      onto s n (All-head (λ k. k < n) s r below) (filter_map (lacked before all) r) (others r n (All-tail (λ k. k < n) s r below)) (lacked before all s) refl

  -- so the list lacks a stop as long as the old one does
  pub lacks_still : (n : ℕ) → is_among n (sources (merged before all n)) ≡ is_among n (sources before)
  lacks_still n =
      let added = filter_map (lacked before all) (range_with_len 0 n) in
      ap (is_among n) (map-append (λ (t : Content). t.source) before added)
      ∙ list_any-append (λ other. other == n) (sources before) (sources added)
      ∙ ap (λ (b : Bool). is_among n (sources before) || b) (others (range_with_len 0 n) n (all_below n)) ∙ or_false (is_among n (sources before)) where
        or_false : (b : Bool) → (b || false) ≡ b
        or_false true = refl
        or_false false = refl

  pub next_same : (n : ℕ) → lacked (merged before all n) all n ≡ lacked before all n
  next_same n = ap (λ (b : Bool). cond b None (tree_of all n)) (lacks_still n)

  pub one_more : (n : ℕ) → merged before all (n + 1) ≡ with_next (merged before all n) (lacked (merged before all n) all n)
  one_more n =
      let f = lacked before all in
      ap (λ (r : List ℕ). before ++ filter_map f r) (counting_more n)
      ∙ ap (λ (l : List Content). before ++ l) (filter_map-append f (range_with_len 0 n) (n ∷ []))
      ∙ sym (append_assoc before (filter_map f (range_with_len 0 n)) (cons_option (f n) []))
      ∙ ap (λ (o : Option Content). merged before all n ++ cons_option o []) (sym (next_same n))
      ∙ sym (with_next-is (merged before all n) (lacked (merged before all n) all n))

  -- the list of fewer numbers is a front
  pub front_next : (list : List Content) (o : Option Content) → IsPrefix list (with_next list o)
  front_next list None = ([], append-nil list)
  front_next list (Some t) = (t ∷ [], refl)

  front_on : (m extra : ℕ) → IsPrefix (merged before all m) (merged before all (m + extra))
  front_on m zero = let same : m + zero ≡ m = omega arith in subst (λ k. IsPrefix (merged before all m) (merged before all k)) (sym same) ([], append-nil (merged before all m))
  front_on m (suc extra) =
      let next : m + suc extra ≡ m + extra + 1 = omega arith in
      let so_far = front_on m extra in
      let step = subst (λ (l : List Content). IsPrefix (merged before all (m + extra)) l) (sym (one_more (m + extra)))
      (front_next (merged before all (m + extra)) (lacked (merged before all (m + extra)) all (m + extra))) in
      subst (λ k. IsPrefix (merged before all m) (merged before all k)) (sym next)
      (so_far.0 ++ step.0, sym (append_assoc (merged before all m) so_far.0 step.0) ∙ ap (λ (l : List Content). l ++ step.0) so_far.1 ∙ step.1)

  pub front_of : (m n : ℕ) → m ≤ n → IsPrefix (merged before all m) (merged before all n)
  front_of m n le = let all_of : m + (n - m) ≡ n = omega arith in subst (λ k. IsPrefix (merged before all m) (merged before all k)) all_of (front_on m (n - m))

  pub starts : merged before all 0 ≡ before
  starts = append-nil before

-- the same trees in another order are put together to the same list
pub any_order_lem : (before all other : List Content) (stops : ℕ) → Agree all → AreAmong all other → AreAmong other all → merged before all stops ≡ merged before other stops
any_order_lem before all other stops agree there back = ap (λ (l : List Content). before ++ l) (same (range_with_len 0 stops)) where
  same_next : (s : ℕ) → lacked before all s ≡ lacked before other s
  same_next s = ap (λ (o : Option Content). cond (is_among s (sources before)) None o) (same_found all other agree there back s)

  same : (r : List ℕ) → filter_map (lacked before all) r ≡ filter_map (lacked before other) r
  same [] = refl
  same (s ∷ r) =
      ap (λ (o : Option Content). cons_option o (filter_map (lacked before all) r)) (same_next s)
      ∙ ap (λ (l : List Content). cons_option (lacked before other s) l) (same r)
