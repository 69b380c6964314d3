-- Lists of layers and of rounds, one item after the other.
use Rattle.std.proofs.Common.{◌≡◌, ℕ, suc, ◌+◌, ◌-◌, ◌<◌, ◌≤◌, List, ◌++◌, length, get_or, slice_set, arith, sym, ◌∙◌, ap, subst, inl, inr}
use Rattle.stop_labels.specs.Row.{RowData}
use Rattle.rounds.specs.declared.layer.Layer.{Layer}
use Rattle.rounds.specs.Layers.{no_layer, no_row, layer_at, round_at}
use Rattle.std.proofs.lemmas.List.{get_or_default, get_or-set_same, get_or-set_other, set-append_right}
use Rattle.rounds.proofs.RideSteps.{split_at}

pub item_at : (layers : List Layer) (i : ℕ) (x : Layer) → i < length layers → x ≡ get_or layers i x → x ≡ layer_at layers i
item_at layers i x in' e = e ∙ sym (get_or_default layers i no_layer x in')

pub each_next : (P : ℕ → Layer → Layer → Type 0) (old mid : List Layer) (i : ℕ) (x : Layer) → i < length mid
    → ((r : ℕ) → r < i → P r (layer_at old r) (layer_at mid r)) → ((r : ℕ) → i ≤ r → layer_at mid r ≡ layer_at old r) → P i (layer_at mid i) x
    → (r : ℕ) → r < i + 1 → P r (layer_at old r) (layer_at (slice_set mid i x) r)
each_next P old mid i x in' each rest here r lt = elim (split_at r i lt) [
  | inl before ↦
      subst (λ (y : Layer). P r (layer_at old r) y) (sym (get_or-set_other mid i r x no_layer (λ e. omega (arith, before, e)))) (each r before)
  | inr now ↦
      subst (λ k. P k (layer_at old k) (layer_at (slice_set mid i x) k)) (sym now)
      (subst (λ (y : Layer). P i (layer_at old i) y) (sym (get_or-set_same mid i x no_layer in'))
      (subst (λ (y : Layer). P i y x) (rest i (let k : i ≤ i = omega arith in k)) here))
]

pub rest_next : (old mid : List Layer) (i : ℕ) (x : Layer) → ((r : ℕ) → i ≤ r → layer_at mid r ≡ layer_at old r)
    → (r : ℕ) → i + 1 ≤ r → layer_at (slice_set mid i x) r ≡ layer_at old r
rest_next old mid i x rest r le =
    get_or-set_other mid i r x no_layer (λ e. omega (arith, le, e)) ∙ rest r (let k : i ≤ r = omega (arith, le) in k)

pub read_at : (layers : List Layer) (i : ℕ) (d : Layer) → i < length layers → get_or layers i d ≡ layer_at layers i
read_at layers i d in' = sym (get_or_default layers i no_layer d in')

pub round_read : (rounds : List RowData) (i : ℕ) (d : RowData) → i < length rounds → get_or rounds i d ≡ round_at rounds i
round_read rounds i d in' = sym (get_or_default rounds i no_row d in')

-- the first item of the second part is written to
pub part_set : (layers front back : List Layer) (n : ℕ) (x : Layer) → layers ≡ front ++ back → length front ≡ n + 1
    → front ++ slice_set back 0 x ≡ slice_set layers (suc n) x
part_set layers front back n x e long =
    sym (ap (λ (ls : List Layer). slice_set ls (suc n) x) e
    ∙ (set-append_right front back (n + 1) (suc n) x long (let k : n + 1 ≤ suc n = omega arith in k)
    ∙ ap (λ k. front ++ slice_set back k x) (let k : suc n - (n + 1) ≡ 0 = omega arith in k)))

-- the first item of the second part
pub second_read : (layers back : List Layer) (n : ℕ) (d : Layer) → get_or back 0 d ≡ get_or layers (n + 1 + 0) d → suc n < length layers
    → get_or back 0 d ≡ layer_at layers (suc n)
second_read layers back n d e in' = e ∙ (ap (λ k. get_or layers k d) (let k : n + 1 + 0 ≡ suc n = omega arith in k) ∙ read_at layers (suc n) d in')

-- the same for rounds
pub each_round : (P : ℕ → RowData → RowData → Type 0) (old mid : List RowData) (i : ℕ) (x : RowData) → i < length mid
    → ((r : ℕ) → r < i → P r (round_at old r) (round_at mid r)) → ((r : ℕ) → i ≤ r → round_at mid r ≡ round_at old r) → P i (round_at mid i) x
    → (r : ℕ) → r < i + 1 → P r (round_at old r) (round_at (slice_set mid i x) r)
each_round P old mid i x in' each rest here r lt = elim (split_at r i lt) [
  | inl before ↦
      subst (λ (y : RowData). P r (round_at old r) y) (sym (get_or-set_other mid i r x no_row (λ e. omega (arith, before, e)))) (each r before)
  | inr now ↦
      subst (λ k. P k (round_at old k) (round_at (slice_set mid i x) k)) (sym now)
      (subst (λ (y : RowData). P i (round_at old i) y) (sym (get_or-set_same mid i x no_row in'))
      (subst (λ (y : RowData). P i y x) (rest i (let k : i ≤ i = omega arith in k)) here))
]

pub rest_rounds : (old mid : List RowData) (i : ℕ) (x : RowData) → ((r : ℕ) → i ≤ r → round_at mid r ≡ round_at old r)
    → (r : ℕ) → i + 1 ≤ r → round_at (slice_set mid i x) r ≡ round_at old r
rest_rounds old mid i x rest r le = get_or-set_other mid i r x no_row (λ e. omega (arith, le, e)) ∙ rest r (let k : i ≤ r = omega (arith, le) in k)
