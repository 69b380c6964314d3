use Rattle.std.proofs.Common.{[]}
use Rattle.lines.specs.Lines.{positions_at}
use Rattle.least_walks.specs.Ways.{Gathers, RidesAmong}
use Rattle.least_walks.proofs.RideFacts.{SeenBehind}
use Rattle.least_walks.proofs.boarding.boards_at.Given as goal

abbrev pub invariant-loop-at : goal.invariant-loop-at
invariant-loop-at l = Gathers (RidesAmong l.network l.fn.board (SeenBehind l.lines (positions_at l.lines l.fn.board) l.at-index) l.alights) 0 l.bound [] l.ways
