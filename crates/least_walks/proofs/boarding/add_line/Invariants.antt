use Rattle.std.proofs.Common.{◌≤◌}
use Rattle.least_walks.specs.Ways.{Gathers, RidesAmong}
use Rattle.least_walks.proofs.RideFacts.{SeenHalt}
use Rattle.least_walks.proofs.boarding.add_line.Given as goal

abbrev pub invariant-loop-position : goal.invariant-loop-position
invariant-loop-position l = record {
  from : l.fn.first ≤ l.position;
  rides : Gathers (RidesAmong l.network l.fn.board (SeenHalt l.halts l.fn.first l.position) l.alights) 0 l.bound l.fn.ways l.ways;
}
