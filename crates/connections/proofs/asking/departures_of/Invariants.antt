use Rattle.std.proofs.Common.{take}
use Rattle.connections.proofs.MomentFacts.{AreGathered}
use Rattle.connections.proofs.asking.departures_of.Given as goal

-- the events of the stops so far
abbrev pub invariant-loop-stop : goal.invariant-loop-stop
invariant-loop-stop l = AreGathered l.network (take l.stop-index l.stops) l.moments.items
