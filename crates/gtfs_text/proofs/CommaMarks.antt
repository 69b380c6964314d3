-- Commas of a line that are marked as bits, and the fields between them.
use Rattle.std.proofs.Common.{◌≡◌, ℕ, ◌+◌, ◌-◌, ◌<◌, ◌≤◌, ◌≢◌, Bool, true, false, cond, List, [], ◌∷◌, length, take, drop, get_or, map, refl, sym, ap, ◌∙◌, arith, inl, inr, slice_range}
use Rattle.std.specs.Int.{bit_at}
use Rattle.std.specs.List.{All, position_or_len}
use Rattle.std.proofs.lemmas.Bool.{cases_lt, cases_eq}
use Rattle.std.proofs.lemmas.List.{drop-drop, get_or-drop, get_or-take, get_or_default, get_or_past, length-drop, length-take}
use Rattle.std.proofs.lemmas.List.Splits.{slice_split_first, slice_split_none}
use Rattle.std.proofs.lemmas.List.Sums.{position_or_len_is}
use Rattle.std.proofs.lemmas.Nat.Bits.{bit_at-zero}
use Rattle.gtfs_text.specs.Commas.{HasNoComma, MarksCommas, fields_from}
use Rattle.gtfs_text.specs.Lines.{between_commas, is_comma}
use Rattle.gtfs_text.specs.Sheets.{without_spaces}

one_if : (b : Bool) → ◌≡◌ {A = ℕ} (cond b 1 0) 1 → b ≡ true
one_if true e = refl
one_if false e = absurd (omega (arith, e))

pub zero_if : (b : Bool) → ◌≡◌ {A = ℕ} (cond b 1 0) 0 → b ≡ false
zero_if true e = absurd (omega (arith, e))
zero_if false e = refl

-- a comma of a line stands before its end
pub comma_inside : (line : List ℕ) (i : ℕ) → is_comma (get_or line i 0) ≡ true → i < length line
comma_inside line i comma = elim (cases_lt i (length line)) [
  | inl within ↦ within
  | inr past ↦ (let no : true ≡ false = sym comma ∙ ap is_comma (get_or_past line i 0 past) in absurd (cc no))
]

-- the first comma of a line from a place on
pub record IsNextComma (line : List ℕ) (from comma : ℕ) : Type 0 where
  pub low : from ≤ comma
  pub within : comma < length line
  pub none : HasNoComma line from comma
  pub here : is_comma (get_or line comma 0) ≡ true

-- it is where the lowest mark is
pub lowest_is_next : (line : List ℕ) (at next left bit : ℕ) → MarksCommas line at next left → HasNoComma line next at → bit < 64 → bit_at left bit ≡ 1
    → ((k : ℕ) → k < bit → bit_at left k ≡ 0) → IsNextComma line next (at + bit)
lowest_is_next line at next left bit marks none bound set below =
    let low : next ≤ at + bit = elim (cases_lt (at + bit) next) [ inl before ↦ absurd (omega (arith, marks.gone bit bound before, set)) | inr from ↦ from ] in
    let here : is_comma (get_or line (at + bit) 0) ≡ true = one_if (is_comma (get_or line (at + bit) 0)) (sym (marks.kept bit bound low) ∙ set) in
    record {
      low = low;
      within = comma_inside line (at + bit) here;
      none = λ k from to. elim (cases_lt k at) [
        | inl before ↦ none k from before
        | inr past ↦
            (let same : k ≡ at + (k - at) = omega (arith, past) in
            let small : k - at < bit = omega (arith, past, to) in
            let above : next ≤ at + (k - at) = omega (arith, past, from) in
            ap (λ (i : ℕ). is_comma (get_or line i 0)) same
            ∙ zero_if (is_comma (get_or line (at + (k - at)) 0)) (sym (marks.kept (k - at) (omega (arith, small, bound)) above) ∙ below (k - at) small))
      ];
      here = here;
    }

-- without its mark, the others are those after it
pub marks_after : (line : List ℕ) (at next left bit after : ℕ) → MarksCommas line at next left → next ≤ at + bit → ((k : ℕ) → k < bit → bit_at left k ≡ 0)
    → bit_at after bit ≡ 0 → ((k : ℕ) → k < 64 → k ≢ bit → bit_at after k ≡ bit_at left k) → MarksCommas line at (at + bit + 1) after
marks_after line at next left bit after marks low below gone kept = record {
  gone = λ k bound before. elim (cases_eq k bit) [
    | inl same ↦ ap (bit_at after) same ∙ gone
    | inr other ↦ kept k bound other ∙ below k (omega (arith, before, other))
  ];
  kept = λ k bound from. kept k bound (λ same. absurd (omega (arith, from, same))) ∙ marks.kept k bound (omega (arith, from, low));
}

-- if no mark is left, no comma is
pub none_unmarked : (line : List ℕ) (at next left : ℕ) → MarksCommas line at next left → HasNoComma line next at → left ≡ 0 → HasNoComma line next (at + 64)
none_unmarked line at next left marks none empty k from to = elim (cases_lt k at) [
  | inl before ↦ none k from before
  | inr past ↦
      (let same : k ≡ at + (k - at) = omega (arith, past) in
      let above : next ≤ at + (k - at) = omega (arith, past, from) in
      ap (λ (i : ℕ). is_comma (get_or line i 0)) same
      ∙ zero_if (is_comma (get_or line (at + (k - at)) 0))
      (sym (marks.kept (k - at) (omega (arith, past, to)) above) ∙ ap (λ (m : ℕ). bit_at m (k - at)) empty ∙ bit_at-zero (k - at)))
]

-- the field before the next comma, and those after it
pub next_field : (line : List ℕ) (from comma : ℕ) → IsNextComma line from comma → fields_from line from ≡ without_spaces (slice_range line from comma) ∷ fields_from line (comma + 1)
next_field line from comma is =
    let rest = drop from line in
    let long = length-drop from line in
    let there : from + (comma - from) ≡ comma = omega (arith, is.low) in
    let at : position_or_len is_comma rest ≡ comma - from =
    position_or_len_is is_comma rest (comma - from) 0 (omega (arith, long, is.within))
    (λ k before. ap is_comma (get_or-drop from line k 0) ∙ is.none (from + k) (omega arith) (omega (arith, before, is.low)))
    (λ _. ap is_comma (get_or-drop from line (comma - from) 0 ∙ ap (λ (i : ℕ). get_or line i 0) there) ∙ is.here) in
    let within : position_or_len is_comma rest < length rest = omega (arith, at, long, is.within, is.low) in
    let behind : drop (comma - from + 1) rest ≡ drop (comma + 1) line =
    drop-drop (comma - from + 1) from line ∙ ap (λ (n : ℕ). drop n line) (omega (arith, is.low)) in
    ap (map without_spaces) (
    slice_split_first is_comma rest 0 within
    ∙ ap (λ (n : ℕ). take n rest ∷ between_commas (drop (n + 1) rest)) at
    ∙ ap (λ (xs : List ℕ). take (comma - from) rest ∷ between_commas xs) behind)

-- of a line that is as much of a text as `size` says, the text's commas are marked
pub marks_of_line : (text : List ℕ) (size at marks : ℕ) → ((k : ℕ) → k < 64 → bit_at marks k ≡ cond (is_comma (get_or (take size text) (at + k) 0)) 1 0)
    → MarksCommas (take size text) at 0 marks
marks_of_line text size at marks each = record { gone = λ k bound before. absurd (omega (arith, before)); kept = λ k bound from. each k bound }

pub inside_line : (text : List ℕ) (size i : ℕ) → i < size → ◌≡◌ {A = ℕ} (cond (is_comma (get_or text i 0)) 1 0) (cond (is_comma (get_or (take size text) i 0)) 1 0)
inside_line text size i within = ap {B = ℕ} (λ (c : ℕ). cond (is_comma c) 1 0) (sym (get_or-take size text i 0 within))

pub past_line : (text : List ℕ) (size i : ℕ) → size ≤ i → ◌≡◌ {A = ℕ} 0 (cond (is_comma (get_or (take size text) i 0)) 1 0)
past_line text size i past = ap {B = ℕ} (λ (c : ℕ). cond (is_comma c) 1 0) (sym (get_or_past (take size text) i 0 (omega (arith, past, length-take size text))))

-- marks from one place on are marks from a later one on, which isn't past the first byte that they speak of
pub marks_from : (line : List ℕ) (at next marks : ℕ) → next ≤ at → MarksCommas line at 0 marks → MarksCommas line at next marks
marks_from line at next marks low all = record { gone = λ k bound before. absurd (omega (arith, before, low)); kept = λ k bound from. all.kept k bound (omega arith) }

-- the last field of a line
pub last_field : (line : List ℕ) (from end : ℕ) → HasNoComma line from end → length line ≤ end → fields_from line from ≡ without_spaces (drop from line) ∷ []
last_field line from end none past =
    let plain : All (λ c. is_comma c ≡ false) (drop from line) = λ k d within.
    ap is_comma (get_or_default (drop from line) k d 0 within ∙ get_or-drop from line k 0) ∙ none (from + k) (omega arith) (omega (arith, within, past, length-drop from line)) in
    ap (map without_spaces) (slice_split_none is_comma (drop from line) plain)
