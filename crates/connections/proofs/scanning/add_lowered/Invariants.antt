use Rattle.rounds.specs.Scratch.{rounds_of, before_of}
use Rattle.connections.specs.Found.{IsLowered}
use Rattle.connections.proofs.AddedFacts.{AddsSoFar}
use Rattle.connections.proofs.scanning.add_lowered.Given as goal

abbrev pub invariant-loop-journey : goal.invariant-loop-journey
invariant-loop-journey l =
    AddsSoFar (IsLowered (rounds_of l.fn.view) (before_of l.fn.view) l.fn.to) l.fn.event l.fn.points l.journey-index l.fn.found.items l.found.items
