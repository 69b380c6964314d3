use Rattle.std.proofs.Common.{◌≤◌, ◌-◌, length, take}
use Rattle.told_matrix.specs.Batches.{HasLines}
use Rattle.told_matrix.proofs.batches.print_batches.Given as goal

abbrev pub invariant-batches : goal.invariant-batches
invariant-batches g l = record {
  bound : l.done ≤ length l.origins;
  printed : HasLines l.window (take l.done l.origins) l.goals l.initial.out l.out;
}

abbrev pub decreases-batches : goal.decreases-batches
decreases-batches g l = length l.origins - l.done
