-- What nodes stand for, in any allocator A: the same in each.
use Rattle.std.specs.Prelude.{List, map}
use Rattle.pattern_tree.specs.Forest.{Branch, forest}
use Rattle.pattern_tree.specs.declared.node.Node.{Node}
use Rattle.pattern_tree.specs.declared.node.Node.TheOpen.{Node-F}
use Rattle.pattern_tree.specs.declared.node.Node.TheFolds.{fold-Node}

-- a node whose later nodes are branches already
abbrev pub branch_step : (A : Type 0) → Node-F A Branch → Branch
branch_step A n = record { board = n.board; alight = n.alight; ends = n.ends.items; next = forest n.next.items }

-- a node with all below it
abbrev pub branch : {A : Type 0} → Node A → Branch
branch {A} = fold-Node A Branch (branch_step A)

-- siblings
abbrev pub branches : {A : Type 0} → List (Node A) → List Branch
branches ns = map branch ns
