-- The lines of a text that is UTF-8 are UTF-8.
use Rattle.std.proofs.Common.{◌≡◌, ℕ, ◌<◌, true, List, [], ◌∷◌, ◌++◌, length, get_or, refl, arith, subst, inl, inr, nat_eq, cond, false, length-append, IsUtf8}
use Rattle.std.specs.Prelude.{Result, Ok, Err, MatchResult, is_ok}
use Rattle.std.proofs.Math.Seq.{take-append_seam, drop-append_seam, get_or-append_seam}
use Rattle.std.proofs.lemmas.List.{append-nil}
use Rattle.std.proofs.lemmas.Str.{IsUtf8-take, IsUtf8-drop, IsUtf8-nil, IsCharBoundary-after_ascii, IsCharBoundary-before_ascii}
use Rattle.gtfs_text.specs.Lines.{IsFrontLine, without_line_feed}

-- what stands before an ASCII byte of a text, what begins with that byte, and what follows it
before_ascii : (line : List ℕ) (c : ℕ) (rest : List ℕ) → c < 128 → IsUtf8 (line ++ c ∷ rest) → IsUtf8 line
before_ascii line c rest ascii text =
    let whole = line ++ c ∷ rest in
    let within : length line < length whole = omega (arith, length-append line (c ∷ rest)) in
    let here : get_or whole (length line) 0 ≡ c = get_or-append_seam line c rest 0 in
    rw take-append_seam at (IsUtf8-take whole (length line) text (IsCharBoundary-before_ascii whole (length line) within (omega (arith, here, ascii))))

from_ascii : (line : List ℕ) (c : ℕ) (rest : List ℕ) → c < 128 → IsUtf8 (line ++ c ∷ rest) → IsUtf8 (c ∷ rest)
from_ascii line c rest ascii text =
    let whole = line ++ c ∷ rest in
    let within : length line < length whole = omega (arith, length-append line (c ∷ rest)) in
    let here : get_or whole (length line) 0 ≡ c = get_or-append_seam line c rest 0 in
    rw drop-append_seam at (IsUtf8-drop whole (length line) text (IsCharBoundary-before_ascii whole (length line) within (omega (arith, here, ascii))))

after_ascii : (c : ℕ) (rest : List ℕ) → c < 128 → IsUtf8 (c ∷ rest) → IsUtf8 rest
after_ascii c rest ascii text = IsUtf8-drop (c ∷ rest) 1 text (IsCharBoundary-after_ascii (c ∷ rest) 0 text (omega arith) ascii)

fed_is_text : (rest : List ℕ) → IsUtf8 rest → IsUtf8 (without_line_feed rest)
fed_is_text [] text = text
fed_is_text (c ∷ rest) text =
    elim (nat_eq c 10) as (λ t. nat_eq c 10 ≡ t → IsUtf8 (cond t rest (c ∷ rest))) [
      | true ↦ λ e. (let feed : c ≡ 10 = grind (arith, e) in after_ascii c rest (omega (arith, feed)) text)
      | false ↦ λ e. text
    ] refl

-- the front line of a text, and the text from its line feed on
line_is_text : (here line after : List ℕ) → IsFrontLine here line after → IsUtf8 here → IsUtf8 line
line_is_text here line after (inl last) text = rw append-nil at (rw last.1 at (subst IsUtf8 last.0 text))
line_is_text here line after (inr (behind, is, inl whole)) text = before_ascii line 10 behind (omega arith) (rw is at (subst IsUtf8 whole text))
line_is_text here line after (inr (behind, is, inr whole)) text = before_ascii line 13 after (omega arith) (subst IsUtf8 whole text)

after_is_text : (here line after : List ℕ) → IsFrontLine here line after → IsUtf8 here → IsUtf8 after
after_is_text here line after (inl last) text = rw last.1 IsUtf8-nil
after_is_text here line after (inr (behind, is, inl whole)) text = rw is (from_ascii line 10 behind (omega arith) (rw is at (subst IsUtf8 whole text)))
after_is_text here line after (inr (behind, is, inr whole)) text = after_ascii 13 after (omega arith) (from_ascii line 13 after (omega arith) (subst IsUtf8 whole text))

pub front_is_text : (rest line after : List ℕ) → IsFrontLine (without_line_feed rest) line after → IsUtf8 rest → IsUtf8 line
front_is_text rest line after front text = line_is_text (without_line_feed rest) line after front (fed_is_text rest text)

pub rest_is_text : (rest line after : List ℕ) → IsFrontLine (without_line_feed rest) line after → IsUtf8 rest → IsUtf8 after
rest_is_text rest line after front text = after_is_text (without_line_feed rest) line after front (fed_is_text rest text)

-- what a test found to be UTF-8 is, and what it didn't isn't
pub read_is_text : {T E : Type 0} (r : Result T E) (bytes : List ℕ) (P : T → Type 0) (Q : E → Type 0) → MatchResult r (λ s. P s × IsUtf8 bytes) Q → is_ok r ≡ true → IsUtf8 bytes
read_is_text (Ok s) bytes P Q cases good = cases.1
read_is_text (Err e) bytes P Q cases good = cc good

pub text_is_read : {T E : Type 0} (r : Result T E) (bytes : List ℕ) (P : T → Type 0) (Q : E → Type 0) → MatchResult r P (λ e. ¬ (IsUtf8 bytes) × Q e) → IsUtf8 bytes → is_ok r ≡ true
text_is_read (Ok s) bytes P Q cases text = refl
text_is_read (Err e) bytes P Q cases text = absurd (cases.0 text)
