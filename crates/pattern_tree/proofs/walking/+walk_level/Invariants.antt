use Rattle.std.proofs.Common.{◌≡◌, map, take}
use Rattle.pattern_tree.specs.Forest.{pairs, forest, levels}
use Rattle.pattern_tree.specs.Branch.{branches}
use Rattle.pattern_tree.specs.Walks.{ShownAll, after}
use Rattle.pattern_tree.proofs.walking.+walk_level.Given as goal

abbrev pub invariant-loop-node : goal.invariant-loop-node
invariant-loop-node g l = record {
  path : l.path.items ≡ l.initial.path.items;
  shown : ShownAll g.V.Visitor.shows l.initial.visitor (map (after l.initial.path.items) (pairs (forest (take l.node-index (branches l.level))))) l.visitor;
}

abbrev pub decreases-walk_level : goal.decreases-walk_level
decreases-walk_level g l = levels (forest (branches l.level.now))
