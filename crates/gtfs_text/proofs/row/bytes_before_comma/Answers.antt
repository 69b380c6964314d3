use Rattle.std.proofs.Common.{◌==◌, ◌∙◌, sym, ap, arith, w8, take, drop}
use lib.Count.{count_trailing_zeros}
use Rattle.std.proofs.lemmas.Simd.{length-chunk, bitmask_splat, leading_from_mask_l, trailing_mask_l}
use Rattle.gtfs_text.specs.Lines.{is_comma}
use Rattle.gtfs_text.proofs.row.bytes_before_comma.Goals as goal

pub returns-then-commas-eq0 : goal.returns-then-commas-eq0
returns-then-commas-eq0 c =
    let bytes = take 8 (drop c.args.at c.args.line.now) in
    let long = length-chunk c.args.at 8 c.args.line.now c.requires in
    let mask = bitmask_splat w8 (λ a b. a == b) bytes 8 44 long (omega arith) in
    sym (leading_from_mask_l is_comma bytes (sym mask ∙ c.if-commas-eq0.true) ∙ long)

pub returns-else-commas-eq0 : goal.returns-else-commas-eq0
returns-else-commas-eq0 c =
    let bytes = take 8 (drop c.args.at c.args.line.now) in
    let long = length-chunk c.args.at 8 c.args.line.now c.requires in
    let mask = bitmask_splat w8 (λ a b. a == b) bytes 8 44 long (omega arith) in
    ap (count_trailing_zeros 64) mask ∙ trailing_mask_l is_comma 64 bytes (omega arith) (omega arith)
