use Rattle.least_walks.specs.Ways.{Gathers, RidesTo}
use Rattle.least_walks.proofs.GatherFacts.{Seen}
use Rattle.least_walks.proofs.boarding.add_rides.Given as goal

abbrev pub invariant-loop-way : goal.invariant-loop-way
invariant-loop-way l = Gathers (RidesTo l.network l.fn.board l.fn.alight (Seen l.row l.way-index)) 0 l.bound l.fn.ways l.ways
