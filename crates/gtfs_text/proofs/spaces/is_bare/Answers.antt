use Rattle.std.proofs.Common.{◌≡◌, ◌<◌, arith, length}
use Rattle.std.proofs.lemmas.Grind.{common_steps}
use Rattle.std.proofs.lemmas.List.{nil_from_length}
use Rattle.gtfs_text.proofs.SpaceFacts.{bare, bare_none}
use Rattle.gtfs_text.proofs.spaces.is_bare.Goals as goal

pub returns-then-is_empty : goal.returns-then-is_empty
returns-then-is_empty c is =
    let none : length c.args.text.now ≡ 0 = grind (arith, common_steps) in
    rw (nil_from_length c.args.text.now none) bare_none

pub returns-then-text-ne32 : goal.returns-then-text-ne32
returns-then-text-ne32 c is =
    let some : 0 < length c.args.text.now = grind (arith, common_steps) in
    bare c.args.text.now some c.if-text-ne32.true (λ space. grind (arith, is, space))
