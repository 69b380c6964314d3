use Rattle.std.proofs.Common.{◌∙◌}
use Rattle.reaching.proofs.SoonestFacts.{last_soonest}
use Rattle.reaching.proofs.reaching.soonest_of.Goals as goal

pub returns : goal.returns
returns c = λ table k s t d best.
    last_soonest table k s t d c.args.front.now best c.copied.result (c.copied.ensures ∙ c.last.ensures.value)
