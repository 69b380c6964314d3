use Rattle.std.proofs.Common.{take}
use Rattle.timetable.specs.Journeys.{IsLeast}
use Rattle.told_connections.specs.Windows.{IsWalk}
use Rattle.told_connections.proofs.walks.least_walk.Given as goal

-- the least from the stops so far
abbrev pub invariant-loop-from : goal.invariant-loop-from
invariant-loop-from l = IsLeast (IsWalk l.table (take l.from-index l.froms) l.tos) l.least
