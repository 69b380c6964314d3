use Rattle.std.proofs.Common.{◌≡◌, ◌∷◌, take}
use Rattle.least_walks.proofs.path.path_from.Given as goal

abbrev pub invariant-loop-ride : goal.invariant-loop-ride
invariant-loop-ride l = l.path.items ≡ l.fn.first ∷ take l.ride-index l.rides
