use Rattle.std.proofs.Common.{◌≡◌, ◌∙◌, ◌%◌, ◌^◌, ℕ, List, Bool, ap, sym, arith, cond, false, get_or, ltb, w8}
use Rattle.std.specs.Int.{bit_at}
use lib.Lanes.{mask_l, zip2}
use Rattle.std.proofs.lemmas.Bool.{eqb-true, ltb-false}
use Rattle.std.proofs.lemmas.Nat.Bits.{bit_at-zero}
use Rattle.std.proofs.lemmas.Simd.{bit_mask_l, get_or-zip2, length-zip2, mask_l-mod, tops_compared}
use Rattle.gtfs_text.proofs.CommaMarks.{zero_if}
use Rattle.gtfs_text.proofs.clock.none_below.Goals as goal

pub returns : goal.returns
returns c none k bound =
    let bytes = c.args.bytes in
    let least = c.args.least in
    let below = zip2 ltb bytes least in
    let long = length-zip2 ltb bytes least (omega (arith, c.requires.bytes, c.requires.least)) in
    let mask = ap (λ (ms : List Bool). mask_l ms % 2 ^ 64) (tops_compared w8 ltb bytes least) ∙ mask_l-mod below 64 (omega (arith, long, c.requires.bytes)) in
    let empty : mask_l below ≡ 0 = sym mask ∙ eqb-true _ 0 none in
    let bit : ◌≡◌ {A = ℕ} (cond (get_or below k false) 1 0) 0 = sym (bit_mask_l below k) ∙ ap (λ (m : ℕ). bit_at m k) empty ∙ bit_at-zero k in
    let unset : ltb (get_or bytes k 0) (get_or least k 0) ≡ false =
    sym (get_or-zip2 ltb bytes least k 0 0 false (omega (arith, bound, c.requires.bytes)) (omega (arith, bound, c.requires.least))) ∙ zero_if (get_or below k false) bit in
    ltb-false (get_or bytes k 0) (get_or least k 0) unset
