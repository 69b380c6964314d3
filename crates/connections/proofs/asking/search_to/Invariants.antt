use Rattle.std.proofs.Common.{take}
use Rattle.pattern_query.specs.Gathered.{IsTo, AddsAsked}
use Rattle.connections.proofs.asking.search_to.Given as goal

abbrev pub invariant-loop-to : goal.invariant-loop-to
invariant-loop-to l = AddsAsked l.network (IsTo l.patterns (take l.to-index l.tos)) l.depart l.fn.best l.best
