-- Rounds, one after the other.
use Rattle.std.proofs.Common.{◌≡◌, ℕ, zero, suc, ◌-◌, map, ◌<◌, ◌≤◌, Option, List, [], length, get_or, arith, refl, sym, ◌∙◌, ap}
use Rattle.std.proofs.lemmas.List.{get_or_default, get_or-map, length-map}
use Rattle.rounds.specs.Mark.{Mark, at, mark_in, moment_in}
use Rattle.stop_labels.specs.Row.{RowData, when, settled_of}
use Rattle.rounds.specs.Layers.{no_row}

pub some_or_none : (rounds : List RowData) (rides : ℕ) (row : RowData) → (rides ≡ 0 → ⊥) → rides ≤ length (map (λ (row : RowData). row.marks) rounds)
    → row ≡ get_or rounds (rides - 1) row → (t : ℕ)
    → (mark_in (map (λ (row : RowData). row.marks) rounds) rides t ≡ at row.marks t)
    × (moment_in (map (λ (row : RowData). row.settled) rounds) rides t ≡ settled_of row t)
some_or_none rounds zero row some few is t = absurd (some refl)
some_or_none rounds (suc r) row some few is t =
    let long = length-map rounds (λ (row : RowData). row.marks) in
    let in' : r < length rounds = omega (arith, few, long) in
    let here : get_or rounds r no_row ≡ row =
    get_or_default rounds r no_row row in' ∙ sym (is ∙ ap (λ k. get_or rounds k row) (let k : suc r - 1 ≡ r = omega arith in k)) in (
      ap (λ (ms : List (Option Mark)). at ms t) (get_or-map (λ (row : RowData). row.marks) rounds r no_row [] in' ∙ ap (λ (x : RowData). x.marks) here),
      ap (λ (ms : List (Option ℕ)). when ms t) (get_or-map (λ (row : RowData). row.settled) rounds r no_row [] in' ∙ ap (λ (x : RowData). x.settled) here),
    )
