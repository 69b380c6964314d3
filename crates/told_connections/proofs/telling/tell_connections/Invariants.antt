use Rattle.std.proofs.Common.{take}
use Rattle.std.specs.List.{AllZip}
use Rattle.told_connections.specs.Windows.{TellsConnection}
use Rattle.told_connections.proofs.telling.tell_connections.Given as goal

-- each of the connections so far is reported
abbrev pub invariant-loop-connection : goal.invariant-loop-connection
invariant-loop-connection l = AllZip (TellsConnection l.basis l.wanted) (take l.connection-index l.connections) l.list.items
