use Rattle.std.proofs.Common.{[]}
use Rattle.least_walks.specs.Ways.{Gathers, WalksTo}
use Rattle.least_walks.proofs.RowFacts.{AreRows}
use Rattle.least_walks.proofs.layers.last_walks.Given as goal

abbrev pub invariant-loop-number : goal.invariant-loop-number
invariant-loop-number l = AreRows (λ p ways. Gathers (WalksTo l.network p l.fn.to l.fn.by) 0 l.bound [] ways) l.number l.rows.items
