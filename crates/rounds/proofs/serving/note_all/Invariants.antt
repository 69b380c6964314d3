use Rattle.std.proofs.Common.{◌≡◌, length}
use Rattle.stop_labels.proofs.Listed.{SeenIn}
use Rattle.rounds.proofs.ServeSteps.{NotedTo}
use Rattle.rounds.proofs.serving.note_all.Given as goal

abbrev pub invariant-loop-stop : goal.invariant-loop-stop
invariant-loop-stop l = record {
  noted : NotedTo l.lines.lines l.ready l.before.marks (SeenIn l.stop-items l.stop-index) l.noted;
  size : length l.noted ≡ length l.fn.noted;
}
