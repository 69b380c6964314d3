-- The fields of a row, one by one, and the rows of a sheet.
use Rattle.std.proofs.Common.{◌≡◌, ◌≢◌, ℕ, zero, suc, ◌+◌, ◌-◌, ◌<◌, ◌≤◌, Bool, true, false, List, [], ◌∷◌, ◌++◌, length, take, drop, get_or, map, refl, arith, sym, ◌∙◌, ap, not, drop-cons, add-one, length-append, nat_eq, ◌==◌, inl, inr}
use Rattle.std.specs.List.{All, list_all, onto_first, position_or_len}
use Rattle.std.proofs.Math.Seq.{get_or-append_right}
use Rattle.std.proofs.lemmas.List.{length-drop, length-map, take_all}
use Rattle.std.proofs.lemmas.List.Splits.{slice_split_first, slice_split_none, slice_split-cons_no, length-slice_split}
use Rattle.std.proofs.lemmas.Bool.{cases_lt}
use Rattle.std.proofs.lemmas.List.Sums.{fails_before_first, prefix_len-le-length}
use Rattle.std.proofs.lemmas.Simd.{run_in_chunk_fails}
use Rattle.gtfs_text.specs.Lines.{between_commas, is_comma, line_at, rows_at}
use Rattle.gtfs_text.specs.Packed.{unpacked}
use Rattle.gtfs_text.specs.Rows.{kept_table}
use Rattle.gtfs_text.specs.Sheets.{Table, table_of, without_spaces}
use Rattle.gtfs_text.specs.declared.lines.Place.{Place}
use Rattle.gtfs_text.proofs.SpaceFacts.{end_keeps, front_other}

-- the first comma is within a line, or at its end
pub comma_within : (line : List ℕ) → position_or_len is_comma line ≤ length line
comma_within line = prefix_len-le-length (λ c. not (is_comma c)) line

-- eight bytes of a line are looked at, and no comma stands before them: then none stands before the first comma among them
pub none_before : (line : List ℕ) (at n : ℕ) → at + 8 ≤ length line → n ≡ position_or_len is_comma (take 8 (drop at line))
    → ((k : ℕ) → k < at → is_comma (get_or line k 0) ≡ false) → (k : ℕ) → k < at + n → is_comma (get_or line k 0) ≡ false
none_before line at n room first none k within = elim (cases_lt k at) [
  | inl before ↦ none k before
  | inr from ↦ run_in_chunk_fails is_comma line at 8 n 0 room first k from within
]

-- a line's fields, if a comma follows the first
pub cut_at_comma : (line rest after : List ℕ) (comma n : ℕ) → n ≡ position_or_len is_comma line → rest ≡ drop n line → rest ≡ comma ∷ after
    → map without_spaces (between_commas line) ≡ without_spaces (take n line) ∷ map without_spaces (between_commas after)
cut_at_comma line rest after comma n at is more =
    let left : length (drop n line) ≡ suc (length after) = ap length (sym is ∙ more) in
    let within : n < length line = omega (arith, left, length-drop n line) in
    let same : comma ∷ after ≡ get_or line n 0 ∷ drop (suc n) line = sym more ∙ is ∙ drop-cons line n 0 within in
    let behind : after ≡ drop (n + 1) line = rw add-one cc in
    let first : position_or_len is_comma line < length line = rw (← at) within in
    rw behind (rw at (ap (map without_spaces) (slice_split_first is_comma line 0 first)))

-- and if none does
pub cut_at_end : (line rest : List ℕ) (n : ℕ) → n ≡ position_or_len is_comma line → rest ≡ drop n line → length rest ≡ 0
    → map without_spaces (between_commas line) ≡ without_spaces (take n line) ∷ []
cut_at_end line rest n at is none =
    let left : length (drop n line) ≡ 0 = ap length (sym is) ∙ none in
    let past : length line ≤ n = omega (arith, left, length-drop n line) in
    let plain : All (λ c. is_comma c ≡ false) line = λ k d within. fails_before_first is_comma line k d (omega (arith, within, past, at)) in
    rw (take_all n line past) (ap (map without_spaces) (slice_split_none is_comma line plain))

-- the field that is looked for is the first one, or comes later, or doesn't come
pub field_here : (fields after : List (List ℕ)) (field : List ℕ) (before : ℕ) → fields ≡ field ∷ after → before ≡ 0 → field ≡ get_or fields before []
field_here fields after field before is none = rw (is, none) refl

pub field_later : (fields after : List (List ℕ)) (field : List ℕ) (before : ℕ) → fields ≡ field ∷ after → 0 < before → get_or after (before - 1) [] ≡ get_or fields before []
field_later fields after field before is more = let n : before ≡ suc (before - 1) = omega arith in rw (is, n) (let m : suc (before - 1) - 1 ≡ before - 1 = omega arith in rw m refl)

-- a test of the first fields, of which the first passes
pub first_passes : (p : List ℕ → Bool) (fields after : List (List ℕ)) (field : List ℕ) (n : ℕ) → fields ≡ field ∷ after → 0 < n → p field ≡ true
    → list_all p (take (n - 1) after) ≡ list_all p (take n fields)
first_passes p fields after field n is some passes =
    let m : n ≡ suc (n - 1) = omega arith in rw (is, m) (rw passes (let k : suc (n - 1) - 1 ≡ n - 1 = omega arith in rw k refl))

-- a text that begins neither with a comma nor with a space has a first field that isn't empty
filled_here : (c : ℕ) (parts : List (List ℕ)) (n : ℕ) → nat_eq c 32 ≡ false → 0 < length parts → 0 < n
    → list_all (λ field. length field == 0) (take n (map without_spaces (onto_first c parts))) ≡ false
filled_here c [] n other some more = absurd (omega (arith, some))
filled_here c (p ∷ ps) zero other some more = absurd (omega (arith, more))
filled_here c (p ∷ ps) (suc n) other some more = rw (front_other c p other, end_keeps c p other) refl

pub filled_first : (line : List ℕ) (n : ℕ) → 0 < length line → get_or line 0 0 ≢ 44 → get_or line 0 0 ≢ 32 → 0 < n
    → list_all (λ field. length field == 0) (take n (map without_spaces (between_commas line))) ≡ false
filled_first [] n some plain other more = absurd (omega (arith, some))
filled_first (c ∷ line) n some plain other more =
    let comma : is_comma c ≡ false = grind (arith, plain) in
    let space : nat_eq c 32 ≡ false = grind (arith, other) in
    rw (slice_split-cons_no is_comma c line comma)
    (filled_here c (between_commas line) n space (omega (arith, length-slice_split is_comma line)) more)

-- a row of the lines
line_here : (file : List ℕ) (places : List Place) (more : Table) (number : ℕ) (d : Place) → number < length places
    → map without_spaces (between_commas (line_at file (get_or places number d))) ≡ get_or (table_of (rows_at file places) ++ more) number []
line_here file [] more number d within = absurd (omega (arith, within))
line_here file (p ∷ ps) more zero d within = refl
line_here file (p ∷ ps) more (suc number) d within = line_here file ps more number d (omega (arith, within))

pub line_row : (file : List ℕ) (places : List Place) (packed : List (List ℕ)) (number : ℕ) (d : Place) (line : List ℕ) → number < length places → line ≡ line_at file (get_or places number d)
    → map without_spaces (between_commas line) ≡ get_or (kept_table file places packed) number []
line_row file places packed number d line within is = rw is (line_here file places (map unpacked packed) number d within)

-- as many rows as places
pub rows_length : (file : List ℕ) (places : List Place) → length (table_of (rows_at file places)) ≡ length places
rows_length file [] = refl
rows_length file (p ∷ ps) = ap suc (rows_length file ps)

-- a row of the packed records
pub packed_row : (file : List ℕ) (places : List Place) (packed : List (List ℕ)) (number : ℕ) → length places ≤ number
    → get_or (map unpacked packed) (number - length places) [] ≡ get_or (kept_table file places packed) number []
packed_row file places packed number past =
    let count = rows_length file places in
    ap (λ (n : ℕ). get_or (map unpacked packed) (number - n) []) (sym count) ∙ sym (get_or-append_right (table_of (rows_at file places)) (map unpacked packed) number [] (omega (arith, past, count)))

pub kept_length : (file : List ℕ) (places : List Place) (packed : List (List ℕ)) → length (kept_table file places packed) ≡ length places + length packed
kept_length file places packed = omega (arith, length-append (table_of (rows_at file places)) (map unpacked packed), rows_length file places, length-map packed unpacked)
