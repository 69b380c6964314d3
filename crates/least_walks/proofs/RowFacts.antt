-- The ways of all stops, stop by stop.
use Rattle.std.proofs.Common.{◌≡◌, ℕ, ◌+◌, ◌<◌, ◌≤◌, List, [], ◌∷◌, ◌++◌, length, get_or, arith, sym, ◌∙◌, ap, subst, length-append, eq-or-lt_of_le, inl, inr}
use Rattle.std.proofs.lemmas.List.{get_or_append_left, get_or_push}
use Rattle.least_walks.specs.Ways.{WayData, ways_at}

-- the rows of the first n stops
pub record AreRows (Of : ℕ → List WayData → Type 0) (n : ℕ) (rows : List (List WayData)) : Type 0 where
  pub size : length rows ≡ n
  pub each : (p : ℕ) → p < n → Of p (ways_at rows p)

pub rows_none : (Of : ℕ → List WayData → Type 0) (rows : List (List WayData)) → length rows ≡ 0 → AreRows Of 0 rows
rows_none Of rows empty = record { size = empty; each = λ p lt. absurd (omega (arith, lt)) }

pub rows_more : (Of : ℕ → List WayData → Type 0) (n : ℕ) (rows new : List (List WayData)) (row : List WayData) → new ≡ rows ++ row ∷ [] → Of n row → AreRows Of n rows
    → AreRows Of (n + 1) new
rows_more Of n rows new row same of are = record {
  size = ap (length {A = List WayData}) same ∙ (let e = length-append rows (row ∷ []) in let s = are.size in omega (arith, e, s));
  each = λ p lt. elim (eq-or-lt_of_le (let z : p ≤ n = omega (arith, lt) in z)) [
    | inl e ↦ subst (λ (p : ℕ). Of p (ways_at new p)) (sym e) (subst (λ (ws : List WayData). Of n ws) (sym last) of)
    | inr before ↦ subst (λ (ws : List WayData). Of p ws) (sym (ap (λ (rs : List (List WayData)). get_or rs p []) same ∙ get_or_append_left rows (row ∷ []) [] p (let s = are.size in omega (arith, before, s)))) (are.each p before)
  ];
} where
  last : ways_at new n ≡ row
  last = ap (λ (rs : List (List WayData)). get_or rs n []) same ∙ get_or_push rows row [] n are.size
