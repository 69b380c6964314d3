use Rattle.connections.specs.Found.{IsLastBefore}
use Rattle.connections.proofs.AddedFacts.{AddsSoFar}
use Rattle.connections.proofs.asking.add_last.Given as goal

abbrev pub invariant-loop-journey : goal.invariant-loop-journey
invariant-loop-journey l = AddsSoFar (IsLastBefore l.next) l.fn.event l.fn.points l.journey-index l.fn.found.items l.found.items
