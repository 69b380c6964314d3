use Rattle.std.proofs.Common.{map, take}
use Rattle.pattern_tree.specs.Walks.{ShownAll, ending}
use Rattle.pattern_tree.proofs.walking.walk_ends.Given as goal

abbrev pub invariant-loop-end : goal.invariant-loop-end
invariant-loop-end g l = ShownAll g.V.Visitor.shows l.initial.visitor (map (ending l.path) (take l.end-index l.ends)) l.visitor
