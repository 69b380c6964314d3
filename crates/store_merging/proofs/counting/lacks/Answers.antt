use Rattle.store_merging.proofs.CountFacts.{lacks_is}
use Rattle.std.proofs.Common.{rules}
use Rattle.store_merging.proofs.counting.lacks.Goals as goal

pub returns : goal.returns
returns g c = lacks_is c.args.store.now.stored c.args.stop c.has.result _ (c.whole_has_all.ensures c.args.stop) (c.has.ensures c.requires) (search rules)
