use Rattle.std.proofs.Common.{take}
use Rattle.pattern_tree.specs.Forest.{forest, node_count}
use Rattle.pattern_tree.specs.Branch.{branches}
use Rattle.packed_patterns.specs.Patterns.{Packs}
use Rattle.packed_patterns.proofs.packing.+pack_level.Given as goal

abbrev pub invariant-loop-node : goal.invariant-loop-node
invariant-loop-node g l =
    Packs l.fn.beginnings.items l.fn.patterns.items l.before (forest (take l.node-index (branches l.level))) l.beginnings.items l.patterns.items

abbrev pub decreases-pack_level : goal.decreases-pack_level
decreases-pack_level g l = node_count (forest (branches l.level.now))
