use Rattle.std.proofs.Common.{[]}
use Rattle.least_walks.specs.Ways.{Gathers, RidesAmong, Anywhere}
use Rattle.least_walks.proofs.RowFacts.{AreRows}
use Rattle.least_walks.proofs.boarding.boards_of.Given as goal

abbrev pub invariant-loop-number : goal.invariant-loop-number
invariant-loop-number l = AreRows (λ b ways. Gathers (RidesAmong l.network b Anywhere l.alights) 0 l.bound [] ways) l.number l.rows.items
