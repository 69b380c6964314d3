use Rattle.std.proofs.Common.{arith, ap, unwrap_or}
use Rattle.feed_basis.proofs.StageFacts.{walk_by}
use Rattle.feed_basis.proofs.numbered.push_walk.Goals as goal

pub overflow_add-at : goal.overflow_add-at
overflow_add-at c =
    let short = walk_by c.args.table.now c.args.from c.args.to c.walk.ensures.valid in
    let is = c.unwrap_or-seconds.ensures in
    let found = c.walk.ensures.value in
    let same = ap (λ o. unwrap_or o 0) found in
    let early = c.requires.early in
    omega (arith, short, is, same, early)
