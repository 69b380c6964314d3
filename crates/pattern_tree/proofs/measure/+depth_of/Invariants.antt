use Rattle.std.proofs.Common.{◌≡◌, take}
use Rattle.pattern_tree.specs.Forest.{forest, levels}
use Rattle.pattern_tree.specs.Branch.{branches}
use Rattle.pattern_tree.proofs.measure.+depth_of.Given as goal

abbrev pub invariant-loop-node : goal.invariant-loop-node
invariant-loop-node g l = l.deepest ≡ levels (forest (take l.node-index (branches l.level)))

abbrev pub decreases-depth_of : goal.decreases-depth_of
decreases-depth_of g l = levels (forest (branches l.level.now))
