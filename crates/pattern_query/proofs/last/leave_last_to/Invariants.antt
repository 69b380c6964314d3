use Rattle.std.proofs.Common.{take}
use Rattle.pattern_query.specs.Gathered.{IsPointTo}
use Rattle.pattern_query.specs.Leaving.{LeaveLast}
use Rattle.pattern_query.proofs.last.leave_last_to.Given as goal

abbrev pub invariant-loop-to : goal.invariant-loop-to
invariant-loop-to l = LeaveLast l.network (IsPointTo l.network l.patterns (take l.to-index l.tos) l.depart) l.fn.best l.best
