use Rattle.stop_labels.specs.Row.{SameRow}
use Rattle.stop_labels.proofs.Listed.{SeenIn}
use Rattle.rounds.proofs.LayerSteps.{JoinedTo}
use Rattle.rounds.proofs.layer.join.Given as goal

abbrev pub invariant-loop-stop : goal.invariant-loop-stop
invariant-loop-stop l = record {
  joined : JoinedTo l.below.marks l.fn.row.marks (SeenIn l.stop-items l.stop-index) l.row.marks;
  same : SameRow l.fn.row l.row;
}
