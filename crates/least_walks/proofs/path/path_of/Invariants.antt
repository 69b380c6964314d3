use Rattle.std.proofs.Common.{◌≡◌, take}
use Rattle.least_walks.proofs.path.path_of.Given as goal

abbrev pub invariant-loop-ride : goal.invariant-loop-ride
invariant-loop-ride l = l.path.items ≡ take l.ride-index l.rides
