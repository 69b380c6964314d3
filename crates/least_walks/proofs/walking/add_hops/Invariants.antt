use Rattle.least_walks.specs.Ways.{Gathers, HopsTo}
use Rattle.least_walks.proofs.GatherFacts.{Seen}
use Rattle.least_walks.proofs.walking.add_hops.Given as goal

abbrev pub invariant-loop-way : goal.invariant-loop-way
invariant-loop-way l = Gathers (HopsTo l.seconds l.feet (Seen l.row l.way-index)) l.since l.bound l.fn.ways l.ways
