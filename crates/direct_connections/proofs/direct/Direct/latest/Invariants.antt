use Rattle.std.proofs.Common.{[], get_or}
use Rattle.direct_connections.proofs.LatestFacts.{IsLatestTo}
use Rattle.direct_connections.proofs.direct.Direct.latest.Given as goal

abbrev pub invariant-loop-board : goal.invariant-loop-board
invariant-loop-board l =
    IsLatestTo l.table l.lines.lines l.fn.from l.fn.to l.by (get_or l.self.boards l.fn.from []) (get_or l.self.alights l.fn.to []) l.board-index l.next l.best l.since
