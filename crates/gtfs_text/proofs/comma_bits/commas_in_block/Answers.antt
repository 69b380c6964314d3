use Rattle.std.proofs.Common.{◌==◌, ◌∙◌, Bool, ℕ, ap, arith, cond, false, w8, take, drop}
use Rattle.std.specs.Int.{bit_at}
use Rattle.std.proofs.lemmas.List.{get_or-map}
use Rattle.std.proofs.lemmas.Simd.{bitmask_splat, bit_mask_l, get_or-chunk, length-chunk}
use Rattle.std.proofs.Common.{map}
use Rattle.gtfs_text.specs.Lines.{is_comma}
use Rattle.gtfs_text.proofs.comma_bits.commas_in_block.Goals as goal

pub returns : goal.returns
returns c k bound =
    let bytes = take 64 (drop c.args.at c.args.text.now) in
    let long = length-chunk c.args.at 64 c.args.text.now c.requires in
    let mask = bitmask_splat w8 (λ a b. a == b) bytes 64 44 long (omega arith) in
    ap (λ (m : ℕ). bit_at m k) mask ∙ bit_mask_l (map is_comma bytes) k
    ∙ ap (λ (b : Bool). cond b 1 0) (get_or-map is_comma bytes k 0 false (omega (arith, bound, long)) ∙ ap is_comma (get_or-chunk c.args.at 64 c.args.text.now k 0 bound))
