use Rattle.recovery.proofs.Life.{life}
use Rattle.recovery.proofs.laws.opening_goes_on.Goals as goal

pub returns : goal.returns
returns c = life c.stands_for_one.ensures c.goes_on.ensures.more c.goes_on.ensures.trees
