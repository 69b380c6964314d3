-- What bags of ways gather.
use Rattle.std.proofs.Common.{◌≡◌, ℕ, zero, suc, ◌+◌, ◌<◌, ◌≤◌, ◌⊎◌, List, [], ◌∷◌, ◌++◌, length, get_or, arith, refl, sym, ◌∙◌, ap, subst, inl, inr, le_refl, le_trans, eq-or-lt_of_le}
use Rattle.std.specs.List.{Contains}
use Rattle.std.proofs.lemmas.List.{get_or_default}
use Rattle.std.proofs.lemmas.List.Elements.{Contains-append_cases, Contains-append_left, Contains-append_right}
use Rattle.least_walks.specs.Ways.{WayData, IsNoWorse, HasNoWorse, Gathers}

pub no_worse_same : (w : WayData) → IsNoWorse w w
no_worse_same w = record { late = le_refl w.moment; short = le_refl w.walked }

pub no_worse_then : (u v w : WayData) → IsNoWorse u v → IsNoWorse v w → IsNoWorse u w
no_worse_then u v w a b = record { late = le_trans b.late a.late; short = le_trans a.short b.short }

pub has_then : (ways : List WayData) (v w : WayData) → HasNoWorse ways v → IsNoWorse v w → HasNoWorse ways w
has_then ways v w h b = (h.0, h.1, no_worse_then h.0 v w h.2 b)

-- ---- one way is offered

-- nothing changes if none is wanted
pub gathers_idle : (Of : WayData → Type 0) (since bound : ℕ) (ways : List WayData) → ((w : WayData) → Of w → since ≤ w.moment → w.walked < bound → HasNoWorse ways w)
    → Gathers Of since bound ways ways
gathers_idle Of since bound ways there = record { attained = λ w h. inl h; kept = λ w h. h; all = there }

-- a way that is added
pub gathers_new : (since bound : ℕ) (ways : List WayData) (way : WayData) → since ≤ way.moment → way.walked < bound
    → Gathers (λ w. w ≡ way) since bound ways (ways ++ way ∷ [])
gathers_new since bound ways way late short = record {
  attained = λ w h. elim (Contains-append_cases ways (way ∷ []) w h) [
    | inl was ↦ inl was
    | inr here ↦
        let e : way ≡ w = one way w here in
        inr (sym e, subst (λ (w : WayData). since ≤ w.moment) e late, subst (λ (w : WayData). w.walked < bound) e short)
  ];
  kept = λ w h. (h.0, Contains-append_left ways (way ∷ []) h.0 h.1, h.2);
  all = λ w e l s. (way, Contains-append_right ways (way ∷ []) way (zero, (let z : 0 < 1 = omega arith in z), refl), subst (λ (x : WayData). IsNoWorse way x) (sym e) (no_worse_same way));
} where
  one : (x y : WayData) → Contains (x ∷ []) y → x ≡ y
  one x y h = go h.0 h.1 h.2 where
    go : (k : ℕ) → k < length (x ∷ []) → get_or (x ∷ []) k y ≡ y → x ≡ y
    go zero lt e = e
    go (suc k) lt e = absurd (omega (arith, lt))

-- ---- what is gathered, seen otherwise

pub gathers_for : (Of Next : WayData → Type 0) (since bound : ℕ) (old new : List WayData) → ((w : WayData) → Of w → Next w) → ((w : WayData) → Next w → Of w)
    → Gathers Of since bound old new → Gathers Next since bound old new
gathers_for Of Next since bound old new to from is = record {
  attained = λ w h. elim (is.attained w h) [
    | inl was ↦ inl was
    | inr of ↦ inr (to w of.0, of.1, of.2)
  ];
  kept = is.kept;
  all = λ w next l s. is.all w (from w next) l s;
}

-- one after the other
pub gathers_then : (A B Next : WayData → Type 0) (since bound : ℕ) (old mid new : List WayData) → ((w : WayData) → A w → Next w) → ((w : WayData) → B w → Next w)
    → ((w : WayData) → Next w → A w ⊎ B w) → Gathers A since bound old mid → Gathers B since bound mid new → Gathers Next since bound old new
gathers_then A B Next since bound old mid new left right split first second = record {
  attained = λ w h. elim (second.attained w h) [
    | inl was ↦ elim (first.attained w was) [
      | inl before ↦ inl before
      | inr of ↦ inr (left w of.0, of.1, of.2)
    ]
    | inr of ↦ inr (right w of.0, of.1, of.2)
  ];
  kept = λ w h. second.kept w (first.kept w h);
  all = λ w next l s. elim (split w next) [
    | inl a ↦ second.kept w (first.all w a l s)
    | inr b ↦ second.all w b l s
  ];
}

-- the best of some ways stands for all of them
pub gathers_best : (Of : WayData → Type 0) (since bound : ℕ) (old new : List WayData) (best : WayData) → Of best → ((w : WayData) → Of w → IsNoWorse best w)
    → Gathers (λ w. w ≡ best) since bound old new → Gathers Of since bound old new
gathers_best Of since bound old new best of better is = record {
  attained = λ w h. elim (is.attained w h) [
    | inl was ↦ inl was
    | inr here ↦ inr (subst Of (sym here.0) of, here.1, here.2)
  ];
  kept = is.kept;
  all = λ w one l s.
      let b = better w one in
      has_then new best w (is.all best refl (le_trans l b.late) (let k = b.short in let z : best.walked < bound = omega (arith, k, s) in z)) b;
}

-- ---- the elements of a list that were seen

abbrev pub Seen : {X : Type 0} → List X → ℕ → X → Type 0
Seen xs i x = (k : ℕ) × (k < i) × (k < length xs) × (get_or xs k x ≡ x)

pub seen_none : {X : Type 0} (xs : List X) (x : X) → Seen xs 0 x → ⊥
seen_none xs x h = let lt = h.1 in omega (arith, lt)

pub seen_before : {X : Type 0} (xs : List X) (i : ℕ) (x : X) → Seen xs i x → Seen xs (i + 1) x
seen_before xs i x h = (h.0, (let lt = h.1 in let z : h.0 < i + 1 = omega (arith, lt) in z), h.2, h.3)

pub seen_here : {X : Type 0} (xs : List X) (i : ℕ) (x d : X) → i < length xs → x ≡ get_or xs i d → Seen xs (i + 1) x
seen_here xs i x d within is = (i, (let z : i < i + 1 = omega arith in z), within, get_or_default xs i x d within ∙ sym is)

pub seen_split : {X : Type 0} (xs : List X) (i : ℕ) (y d : X) → i < length xs → y ≡ get_or xs i d → (x : X) → Seen xs (i + 1) x → Seen xs i x ⊎ (x ≡ y)
seen_split {X} xs i y d within is x h = elim (eq-or-lt_of_le (let lt = h.1 in let z : h.0 ≤ i = omega (arith, lt) in z)) [
  | inl e ↦ inr (sym h.3 ∙ (ap (λ (k : ℕ). get_or xs k x) e ∙ (get_or_default xs i x d within ∙ sym is)))
  | inr lt ↦ inl (h.0, lt, h.2, h.3)
]

pub seen_contained : {X : Type 0} (xs : List X) (i : ℕ) (x : X) → Seen xs i x → Contains xs x
seen_contained xs i x h = (h.0, h.2, h.3)

pub seen_all : {X : Type 0} (xs : List X) (i : ℕ) (x : X) → length xs ≤ i → Contains xs x → Seen xs i x
seen_all xs i x long h = (h.0, (let lt = h.1 in let z : h.0 < i = omega (arith, lt, long) in z), h.1, h.2)
