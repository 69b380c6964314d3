use Rattle.std.proofs.Common.{subst}
use Rattle.connections.specs.declared.connection.Connection.{Connection}
use Rattle.told_connections.specs.Windows.{TellsConnection}
use Rattle.feed_basis.proofs.LoopFacts.{zip_more}
use Rattle.told_connections.proofs.telling.tell_connections.Goals as goal

pub loop-connection-preserved : goal.loop-connection-preserved
loop-connection-preserved c =
    let basis = c.args.basis.now in
    let line = c.in_ok-tell_connection.field-0 in
    rw c.in_ok-push.ensures.items
    (zip_more (TellsConnection basis c.args.wanted) c.args.connections.now c.loop-connection.list.items c.loop-connection.connection-index
    c.connection-item.result line c.loop-connection-test.true c.loop-connection.invariant
    (subst (λ (x : Connection). TellsConnection basis c.args.wanted x line) c.connection-item.is c.in_ok-tell_connection.ensures))
