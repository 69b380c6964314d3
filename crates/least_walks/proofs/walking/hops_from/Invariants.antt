use Rattle.std.proofs.Common.{[]}
use Rattle.timetable.specs.Table.{walks_of}
use Rattle.rounds.proofs.WalkSteps.{SeenOf}
use Rattle.least_walks.specs.Ways.{Gathers, HopsAmong}
use Rattle.least_walks.proofs.walking.hops_from.Given as goal

abbrev pub invariant-loop-walk : goal.invariant-loop-walk
invariant-loop-walk l =
    Gathers (HopsAmong l.network l.fn.ridden l.fn.from (SeenOf l.fn.from (walks_of l.network l.fn.from) l.walk-index) l.boards) l.since l.bound [] l.ways
