use Rattle.std.proofs.Common.{◌<◌, All}
use Rattle.precomputing.proofs.missing.settled_stops.Given as goal

abbrev pub invariant-loop-number : goal.invariant-loop-number
invariant-loop-number l = All (λ s. s < l.stops) l.settled.items
