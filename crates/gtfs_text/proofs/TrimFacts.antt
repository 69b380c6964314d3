-- A text without the spaces round it is a text.
use Rattle.std.proofs.Common.{◌≡◌, ℕ, zero, suc, ◌<◌, true, List, [], ◌∷◌, ◌++◌, length, get_or, map, refl, arith, subst, replicate, length-append, IsUtf8}
use Rattle.std.specs.List.{list_all}
use Rattle.std.specs.Str.{is_utf8}
use Rattle.std.proofs.Math.Seq.{take-append_seam, get_or-append_seam}
use Rattle.std.proofs.lemmas.List.{append-nil}
use Rattle.std.proofs.lemmas.Str.{IsUtf8-take, IsUtf8-drop, IsUtf8-from_is_utf8, IsCharBoundary-after_ascii, IsCharBoundary-before_ascii, is_utf8-from_IsUtf8}
use Rattle.gtfs_text.specs.Sheets.{is_text, table_of, without_spaces}
use Rattle.gtfs_text.proofs.LawFacts.{between_spaces}
use Rattle.gtfs_text.proofs.TestFacts.{both}

without_front : (n : ℕ) (xs : List ℕ) → IsUtf8 (replicate n 32 ++ xs) → IsUtf8 xs
without_front zero xs text = text
without_front (suc n) xs text =
    let whole = 32 ∷ (replicate n 32 ++ xs) in
    without_front n xs (IsUtf8-drop whole 1 text (IsCharBoundary-after_ascii whole 0 text (omega arith) (omega arith)))

without_end : (xs : List ℕ) (n : ℕ) → IsUtf8 (xs ++ replicate n 32) → IsUtf8 xs
without_end xs zero text = rw append-nil at text
without_end xs (suc n) text =
    let whole = xs ++ 32 ∷ replicate n 32 in
    let within : length xs < length whole = omega (arith, length-append xs (32 ∷ replicate n 32)) in
    let space : get_or whole (length xs) 0 ≡ 32 = get_or-append_seam xs 32 (replicate n 32) 0 in
    let boundary = IsCharBoundary-before_ascii whole (length xs) within (omega (arith, space)) in
    rw take-append_seam at (IsUtf8-take whole (length xs) text boundary)

pub trimmed_field : (field : List ℕ) → IsUtf8 field → IsUtf8 (without_spaces field)
trimmed_field field text =
    let stands = between_spaces field in
    let whole = subst IsUtf8 stands.whole text in
    without_front stands.before (without_spaces field) (without_end (replicate stands.before 32 ++ without_spaces field) stands.after whole)

trimmed_row : (fields : List (List ℕ)) → is_text fields ≡ true → is_text (map without_spaces fields) ≡ true
trimmed_row [] text = refl
trimmed_row (f ∷ fs) text =
    let each = both (is_utf8 f) (is_text fs) text in
    let first : is_utf8 (without_spaces f) ≡ true = is_utf8-from_IsUtf8 (without_spaces f) (trimmed_field f (IsUtf8-from_is_utf8 f each.0)) in
    rw first (trimmed_row fs each.1)

pub trimmed_table : (rows : List (List (List ℕ))) → list_all is_text rows ≡ true → list_all is_text (table_of rows) ≡ true
trimmed_table [] text = refl
trimmed_table (r ∷ rs) text =
    let each = both (is_text r) (list_all is_text rs) text in
    rw (trimmed_row r each.0) (trimmed_table rs each.1)
