use Rattle.std.proofs.Common.{take}
use Rattle.std.specs.List.{AllZip}
use Rattle.rounds.specs.Scratch.{IsAlike}
use Rattle.connections.specs.Connections.{WalksLeastFor}
use Rattle.connections.proofs.least.walk_least.Given as goal

-- of the connections so far each has its journey
abbrev pub invariant-loop-connection : goal.invariant-loop-connection
invariant-loop-connection l = record {
  same : IsAlike l.fn.scratch l.scratch;
  least : AllZip (WalksLeastFor l.network) (take l.connection-index l.connections) l.list.items;
}
