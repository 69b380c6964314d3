use Rattle.std.proofs.Common.{take}
use Rattle.std.specs.List.{All}
use Rattle.pattern_query.specs.Questions.{IsStored, IsAsked}
use Rattle.pattern_query.specs.Gathered.{AddsAsked}
use Rattle.pattern_query.proofs.between.ask_on.Given as goal

abbrev pub invariant-loop-source : goal.invariant-loop-source
invariant-loop-source g l = record {
  stored : All (IsStored (g.T.Trees.held l.trees)) (take l.source-index l.froms);
  added : AddsAsked l.network (IsAsked (g.T.Trees.held l.trees) (take l.source-index l.froms) l.tos) l.depart l.initial.best l.best;
}
