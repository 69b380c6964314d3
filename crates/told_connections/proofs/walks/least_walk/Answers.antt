use Rattle.std.proofs.Common.{subst}
use Rattle.std.proofs.lemmas.List.{take_all}
use Rattle.timetable.specs.Journeys.{IsLeast}
use Rattle.told_connections.specs.Windows.{IsWalk}
use Rattle.told_connections.proofs.WalkFacts.{walks_more, walks_none}
use Rattle.told_connections.proofs.walks.least_walk.Goals as goal

pub loop-from-init : goal.loop-from-init
loop-from-init c = walks_none c.args.table.now c.args.tos.now

pub loop-from-preserved : goal.loop-from-preserved
loop-from-preserved c =
    walks_more c.args.table.now c.args.tos.now c.args.froms.now c.loop-from.from-index c.from-item.result c.loop-from.least c.least_from.result
    c.shorter-least.result c.loop-from-test.true c.from-item.is c.loop-from.invariant c.least_from.ensures
    c.shorter-least.ensures.one c.shorter-least.ensures.other c.shorter-least.ensures.either

pub returns : goal.returns
returns c =
    subst (λ l. IsLeast (IsWalk c.args.table.now l c.args.tos.now) c.loop-from.least)
    (take_all c.loop-from.from-index c.args.froms.now c.loop-from-test.false) c.loop-from.invariant
