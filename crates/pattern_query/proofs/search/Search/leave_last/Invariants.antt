use Rattle.std.proofs.Common.{take}
use Rattle.packed_patterns.specs.Patterns.{paths_of}
use Rattle.pattern_query.specs.Way.{EmptyOrIn}
use Rattle.pattern_query.specs.BestSoFar.{IsAlong}
use Rattle.pattern_query.specs.Leaving.{LeaveLast}
use Rattle.pattern_query.proofs.search.Search.leave_last.Given as goal

abbrev pub invariant-loop-pattern : goal.invariant-loop-pattern
invariant-loop-pattern l =
    LeaveLast l.self.network.now (IsAlong l.self.network.now l.self.source l.self.to l.self.depart (EmptyOrIn (take l.pattern-index (paths_of l.ending.beginnings.now l.ending.patterns.now)))) l.fn.points l.points
