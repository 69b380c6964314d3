-- What holes with a width print.
use Rattle.std.proofs.Common.{◌≡◌, ◌-◌, ◌^◌, ◌++◌, ℕ, ap, false, [], append-nil, length, replicate}
use native.Mathlib.Numerals.{unary_clauses}
use Rattle.std.specs.Fmt.{decimal, padded_integral, format_spec, char_count, styled_decimal}
use Rattle.answer_lines.specs.Printed.{with_zeros}

padded_with_zeros : (width n : ℕ) → padded_integral (format_spec 32 0 4 width (2 ^ 64 - 1)) false [] (decimal n) ≡ with_zeros width n
unfolding padded_integral char_count
padded_with_zeros width n = simp unary_clauses (ap (λ t. replicate (width - length (decimal n)) 48 ++ t) (append-nil (decimal n)))

pub four_digits : (n : ℕ) → styled_decimal (format_spec 32 0 4 4 (2 ^ 64 - 1)) n ≡ with_zeros 4 n
four_digits n = padded_with_zeros 4 n

pub two_digits : (n : ℕ) → styled_decimal (format_spec 32 0 4 2 (2 ^ 64 - 1)) n ≡ with_zeros 2 n
two_digits n = padded_with_zeros 2 n
