-- The bytes before the first that quotes or ends a line.
use Rattle.std.proofs.Common.{◌≡◌, ℕ, zero, suc, ◌≤◌, true, false, List, length, take, arith, refl, ap, add-one}
use Rattle.std.specs.Prelude.{Option, None, Some, slice_index, not, unwrap_or}
use Rattle.std.specs.List.{list_all}
use Rattle.std.proofs.lemmas.List.Folds.{list_all_more}
use Rattle.memchr.specs.Find.{IsFirstByte, Nowhere, Passes, is_byte3}
use Rattle.gtfs_text.specs.Lines.{is_plain}

plain_before : (bytes : List ℕ) (n : ℕ) → n ≤ length bytes → Nowhere (Passes (is_byte3 34 13 10) bytes) 0 n → list_all is_plain (take n bytes) ≡ true
plain_before bytes zero within none = refl
plain_before bytes (suc n) within none =
    let before = plain_before bytes n (omega (arith, within)) (λ k low high. none k low (omega (arith, high))) in
    let other : is_byte3 34 13 10 (slice_index bytes n) ≡ false =
    elim (is_byte3 34 13 10 (slice_index bytes n)) as (λ t. is_byte3 34 13 10 (slice_index bytes n) ≡ t → t ≡ false)
    [ true ↦ λ e. absurd (none n (omega arith) (omega arith) e) | false ↦ λ e. refl ] refl in
    rw (← add-one n, list_all_more is_plain bytes n 0 (omega (arith, within)), before) (ap not other)

pub first_of_them : (bytes : List ℕ) (at : Option ℕ) → IsFirstByte (is_byte3 34 13 10) bytes at
    → (unwrap_or at (length bytes) ≤ length bytes) × (list_all is_plain (take (unwrap_or at (length bytes)) bytes) ≡ true)
first_of_them bytes None none = (omega arith, plain_before bytes (length bytes) (omega arith) none)
first_of_them bytes (Some at) first = (omega (arith, first.0.high), plain_before bytes at (omega (arith, first.0.high)) first.0.before)
