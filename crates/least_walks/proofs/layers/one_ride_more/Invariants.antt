use Rattle.rounds.specs.Mark.{arrival_in}
use Rattle.rounds.specs.Scratch.{rounds_of}
use Rattle.least_walks.proofs.RowFacts.{AreRows}
use Rattle.least_walks.proofs.LayerFacts.{HopsSince}
use Rattle.least_walks.proofs.layers.one_ride_more.Given as goal

abbrev pub invariant-loop-number : goal.invariant-loop-number
invariant-loop-number l =
    AreRows (λ p ways. HopsSince l.network l.bound l.boards.items p (arrival_in (rounds_of l.view) l.fn.rides p) ways) l.number l.rows.items
