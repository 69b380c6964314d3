use Rattle.std.proofs.Common.{arith}
use Rattle.std.proofs.lemmas.List.{length_push}
use Rattle.std.proofs.lemmas.List.Elements.{All-push}
use Rattle.rounds.specs.Layers.{IsSized}
use Rattle.rounds.proofs.scratch.no_layers.Goals as goal

pub loop-preserved : goal.loop-preserved
loop-preserved c =
    let layers = c.loop.layers.items in
    let layer = c.in_ok-empty.field-0 in
    let pushed = c.in_ok-push.ensures.items in
    rw pushed (record {
      count = (let long = length_push layers layer in let count = c.loop.invariant.count in omega (arith, long, count));
      sized = All-push (IsSized c.args.stops) layers layer c.loop.invariant.sized c.in_ok-empty.ensures;
    })
