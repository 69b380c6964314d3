use Rattle.std.proofs.Common.{take}
use Rattle.pattern_query.proofs.LastAsked.{to_last, to_journeys}
use Rattle.pattern_query.proofs.last.leave_last_to.Goals as goal

pub leave_last-requires-clause-each : goal.leave_last-requires-clause-each
leave_last-requires-clause-each c =
    to_journeys c.args.network.now c.args.depart c.args.patterns.now (take c.loop-to.to-index c.args.tos.now) c.args.best.now c.loop-to.best c.loop-to.invariant c.requires.each

pub loop-to-preserved : goal.loop-to-preserved
loop-to-preserved c =
    to_last c.args.network.now c.args.depart c.args.patterns.now c.args.tos.now c.loop-to.to-index c.to-item.result c.args.best.now c.loop-to.best c.leave_last.new.self
    c.loop-to-test.true c.to-item.is c.loop-to.invariant c.leave_last.ensures
