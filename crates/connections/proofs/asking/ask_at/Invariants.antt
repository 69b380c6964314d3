use Rattle.std.proofs.Common.{take}
use Rattle.pattern_query.specs.Questions.{IsAsked}
use Rattle.pattern_query.specs.Gathered.{AddsAsked}
use Rattle.connections.proofs.asking.ask_at.Given as goal

abbrev pub invariant-loop-source : goal.invariant-loop-source
invariant-loop-source g l = AddsAsked l.network (IsAsked (g.T.Trees.held l.trees) (take l.source-index l.froms) l.tos) l.depart l.initial.best l.best
