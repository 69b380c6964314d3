use Rattle.std.proofs.Common.{take}
use Rattle.pattern_query.specs.Questions.{IsAskedPoint}
use Rattle.pattern_query.specs.Leaving.{LeaveLast}
use Rattle.pattern_query.proofs.last.leave_last.Given as goal

abbrev pub invariant-loop-source : goal.invariant-loop-source
invariant-loop-source g l =
    LeaveLast l.network (IsAskedPoint l.network (g.T.Trees.held l.trees) (take l.source-index l.froms) l.tos l.depart) l.fn.best l.best
