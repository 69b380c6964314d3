-- The texts between the commas of a line, one after the other.
use Rattle.std.proofs.Common.{◌≡◌, ℕ, zero, suc, ◌+◌, ◌<◌, ◌≤◌, true, false, List, length, get_or, refl, arith, nat_lt, IsUtf8}
use Rattle.std.specs.List.{All, position_or_len, before_first, after_first}
use Rattle.std.specs.Str.{IsCharBoundary, is_utf8}
use Rattle.std.proofs.lemmas.Bool.{ltb-true}
use Rattle.std.proofs.lemmas.List.{length-drop}
use Rattle.std.proofs.lemmas.List.Splits.{slice_split_first, slice_split_none}
use Rattle.std.proofs.lemmas.List.Sums.{fails_before_first, passes_at_first}
use Rattle.std.proofs.lemmas.Str.{IsUtf8-take, IsUtf8-drop, IsCharBoundary-after_ascii, is_utf8-from_IsUtf8}
use Rattle.gtfs_text.specs.Lines.{between_commas, is_comma}
use Rattle.gtfs_text.specs.Sheets.{is_text}

-- what stands before the first comma, and after it
record IsCut (rest field after : List ℕ) : Type 0 where
  before : field ≡ before_first is_comma rest
  behind : after ≡ after_first is_comma rest
  within : position_or_len is_comma rest < length rest

comma_at : (rest : List ℕ) → position_or_len is_comma rest < length rest → get_or rest (position_or_len is_comma rest) 0 ≡ 44
comma_at rest within = let is = passes_at_first is_comma rest 0 within in grind (arith, is)

before_is_text : (rest field after : List ℕ) → IsCut rest field after → IsUtf8 rest → IsUtf8 field
before_is_text rest field after cut text =
    let at = comma_at rest cut.within in
    let boundary : IsCharBoundary rest (position_or_len is_comma rest) = (omega (arith, cut.within), λ _ high. absurd (omega (arith, high, at))) in
    rw cut.before (IsUtf8-take rest (position_or_len is_comma rest) text boundary)

behind_is_text : (rest field after : List ℕ) → IsCut rest field after → IsUtf8 rest → IsUtf8 after
behind_is_text rest field after cut text =
    let at = comma_at rest cut.within in
    rw cut.behind (IsUtf8-drop rest (position_or_len is_comma rest + 1) text (IsCharBoundary-after_ascii rest (position_or_len is_comma rest) text cut.within (omega (arith, at))))

shorter_behind : (rest field after : List ℕ) → IsCut rest field after → length after < length rest
shorter_behind rest field after cut = rw cut.behind (omega (arith, cut.within, length-drop (position_or_len is_comma rest + 1) rest))

-- the texts between the commas of a text are texts
all_text : (most : ℕ) (line : List ℕ) → length line < most → IsUtf8 line → is_text (between_commas line) ≡ true
all_text zero line few text = absurd (omega (arith, few))
all_text (suc most) line few text =
    elim (nat_lt (position_or_len is_comma line) (length line)) as (λ t. nat_lt (position_or_len is_comma line) (length line) ≡ t → is_text (between_commas line) ≡ true) [
      | true ↦ λ e.
          let within : position_or_len is_comma line < length line = ltb-true (position_or_len is_comma line) (length line) e in
          let field = before_first is_comma line in
          let after = after_first is_comma line in
          let cut : IsCut line field after = record { before = refl; behind = refl; within = within } in
          let first : is_utf8 field ≡ true = is_utf8-from_IsUtf8 field (before_is_text line field after cut text) in
          let deeper = all_text most after (omega (arith, shorter_behind line field after cut, few)) (behind_is_text line field after cut text) in
          rw (slice_split_first is_comma line 0 within) (rw first deeper)
      | false ↦ λ e.
          let past : length line ≤ position_or_len is_comma line = grind (arith, e) in
          let plain : All (λ c. is_comma c ≡ false) line = λ k d within. fails_before_first is_comma line k d (omega (arith, within, past)) in
          rw (slice_split_none is_comma line plain, is_utf8-from_IsUtf8 line text) refl
    ] refl

pub between_is_text : (line : List ℕ) → IsUtf8 line → is_text (between_commas line) ≡ true
between_is_text line text = all_text (length line + 1) line (omega arith) text
