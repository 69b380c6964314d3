use Rattle.std.proofs.Common.{◌≡◌, ℕ, ◌-◌, ◌%◌, ◌^◌, ◌<◌, ap, ◌∙◌, arith, bit_and, pow_pos, pow_mono}
use Rattle.std.specs.Int.{bit_at}
use Rattle.std.proofs.Math.Nat.{div-eq_of_lt}
use Rattle.std.proofs.lemmas.Nat.Bits.{bit_at_and}
use Rattle.memchr.proofs.lemmas.BitLemmas.{bit_at_low_kept, shl_one}
use Rattle.gtfs_text.proofs.comma_bits.below.Goals as goal

pub overflow_sub-result : goal.overflow_sub-result
overflow_sub-result c = omega (arith, shl_one c.args.bit c.requires, pow_pos c.args.bit)

pub returns-clause-kept : goal.returns-clause-kept
returns-clause-kept c k within = ap (λ (x : ℕ). bit_at (bit_and c.args.marks (x - 1)) k) (shl_one c.args.bit c.requires) ∙ bit_at_low_kept c.args.marks c.args.bit k within

pub returns-clause-gone : goal.returns-clause-gone
returns-clause-gone c k past =
    let n = c.args.bit in
    let small : 2 ^ n - 1 < 2 ^ k = omega (arith, pow_pos n, pow_mono {i = n} {j = k} past) in
    let clear : bit_at (2 ^ n - 1) k ≡ 0 = ap (λ (x : ℕ). x % 2) (div-eq_of_lt small) in
    ap (λ (x : ℕ). bit_at (bit_and c.args.marks (x - 1)) k) (shl_one n c.requires) ∙ omega (arith, bit_at_and c.args.marks (2 ^ n - 1) k, clear)
