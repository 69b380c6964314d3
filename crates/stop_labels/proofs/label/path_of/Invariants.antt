use Rattle.std.proofs.Common.{◌≡◌, take}
use Rattle.stop_labels.proofs.label.path_of.Given as goal

abbrev pub invariant-loop-pair : goal.invariant-loop-pair
invariant-loop-pair l = l.path.items ≡ take l.pair-index l.stops
