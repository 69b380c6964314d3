use Rattle.std.proofs.Common.{◌≡◌, take}
use Rattle.pattern_tree.specs.Forest.{forest, levels}
use Rattle.pattern_tree.specs.Branch.{branches}
use Rattle.pattern_tree.proofs.copying.+copy_level.Given as goal

abbrev pub invariant-loop-node : goal.invariant-loop-node
invariant-loop-node g l = branches l.copies.items ≡ take l.node-index (branches l.level)

abbrev pub decreases-copy_level : goal.decreases-copy_level
decreases-copy_level g l = levels (forest (branches l.level.now))
