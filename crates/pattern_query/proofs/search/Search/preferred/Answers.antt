use Rattle.std.proofs.Common.{◌≡◌, ◌<◌, length, Some, None, arith, sym, ◌∙◌}
use Rattle.std.proofs.lemmas.List.{get_or_default}
use Rattle.pattern_query.specs.BestSoFar.{at}
use Rattle.pattern_query.proofs.search.Search.preferred.Goals as goal

pub better_along-requires-clause-after : goal.better_along-requires-clause-after
better_along-requires-clause-after c =
    let points = c.args.points.now in
    let n = length c.args.path.now in
    let within : n < length points = (let nine = c.requires.slots.nine in let short = c.requires.short in omega (arith, nine, short)) in
    let here : at points n ≡ Some c.in_ok-point.point.now =
    get_or_default points n None c.index-points-rides.result within ∙ sym c.index-points-rides.is ∙ sym c.in_ok-point.ensures.value in
    (c.requires.each n c.in_ok-point.point.now here).2.after
