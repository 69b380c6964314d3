use Rattle.reaching.specs.Listed.{AreListed}
use Rattle.reaching.proofs.reaching.list_stops.Given as goal

abbrev pub invariant-loop-number : goal.invariant-loop-number
invariant-loop-number l = AreListed l.table l.rides l.from l.depart l.last l.number l.list.items
