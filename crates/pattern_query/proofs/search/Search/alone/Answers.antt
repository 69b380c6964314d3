use Rattle.std.proofs.Common.{◌<◌, length, None, arith, sym, ◌∙◌}
use Rattle.std.proofs.lemmas.List.{get_or_default}
use Rattle.pattern_query.proofs.search.Search.alone.Goals as goal

pub returns : goal.returns
returns c =
    let path = c.args.path.now in
    let found = c.follow.new.points in
    let within : length path < length found = (let nine = c.no_points-found.ensures.nine in let long = c.follow.auto.points in let short = c.requires.short in omega (arith, nine, long, short)) in
    record {
      empty = c.no_points-found.result;
      slots = found;
      none = c.no_points-found.ensures.none;
      searched = c.follow.ensures;
      here = get_or_default found (length path) None c.index-found-path.result within ∙ sym c.take.ensures.value;
    }
