use Rattle.pattern_query.proofs.GatherSteps.{to_more}
use Rattle.connections.proofs.asking.search_to.Goals as goal

pub loop-to-preserved : goal.loop-to-preserved
loop-to-preserved c =
    to_more c.args.network.now c.args.depart c.args.patterns.now c.args.tos.now c.loop-to.to-index c.to-item.result c.args.best.now c.loop-to.best c.search.new.self
    c.loop-to-test.true c.to-item.is c.loop-to.invariant c.search.ensures
