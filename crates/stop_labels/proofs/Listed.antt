-- The stops of a list, one after the other, and vectors whose slices were written to.
use Rattle.std.proofs.Common.{◌≡◌, ℕ, ◌+◌, ◌<◌, ◌≤◌, ◌⊎◌, ◌++◌, List, length, get_or, take, drop, take_at, arith, sym, ◌∙◌, ap, inl, inr, eq-or-lt_of_le}
use Rattle.std.specs.List.{Contains}
use Rattle.std.proofs.lemmas.List.{get_or_default}

split_at : (i j : ℕ) → i < j + 1 → (i < j) ⊎ (i ≡ j)
split_at i j h = elim (eq-or-lt_of_le (let k : i ≤ j = omega (arith, h) in k)) [ inl e ↦ inr e | inr l ↦ inl l ]

-- the stop is one of the first n of the list
abbrev pub SeenIn : List ℕ → ℕ → ℕ → Type 0
SeenIn listed n p = (k : ℕ) × (k < n) × (get_or listed k p ≡ p)

pub seen_next : (listed : List ℕ) (n x p : ℕ) → n < length listed → x ≡ get_or listed n x → SeenIn listed (n + 1) p → SeenIn listed n p ⊎ (p ≡ x)
seen_next listed n x p in' is seen = elim (split_at seen.0 n seen.1) [
  | inl before ↦ inl (seen.0, before, seen.2)
  | inr now ↦ inr (sym seen.2 ∙ (ap (λ k. get_or listed k p) now ∙ (get_or_default listed n p x in' ∙ sym is)))
]

pub seen_all : (listed : List ℕ) (n p : ℕ) → length listed ≤ n → Contains listed p → SeenIn listed n p
seen_all listed n p long has = (has.0, (let lt = has.1 in let k : has.0 < n = omega (arith, lt, long) in k), has.2)

-- a vector after its slice was written to
pub whole : {X : Type 0} (len : ℕ) (new items : List X) → length items ≡ len → length new ≡ length items → take len (new ++ drop (length new) items) ≡ new
whole len new items e same = take_at new (drop (length new) items) len (same ∙ e)

pub whole_of : {X : Type 0} (len : ℕ) (new items now : List X) → now ≡ items → length now ≡ len → length new ≡ length now → take len (new ++ drop (length new) items) ≡ new
whole_of {X} len new items now e l same = whole len new items (ap (length {A = X}) (sym e) ∙ l) (same ∙ ap (length {A = X}) e)
