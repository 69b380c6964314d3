-- What is made of a tree for a board. Only private clauses cite these words.
use Rattle.std.specs.Prelude.{◌≡◌, [], ◌∷◌, ◌++◌}
use Rattle.pattern_tree.specs.Content.{Content}
use Rattle.board.specs.Trees.{IsSameTree}
use Rattle.planner.specs.declared.sharing.Sharing.{Sharing}

-- the same tree is added after the others
pub record SharesTree (old : Sharing) (tree : Content) (new : Sharing) : Type 0 where
  pub shared : Content
  pub same : IsSameTree tree shared
  pub trees : new.trees.items ≡ old.trees.items ++ shared ∷ []
