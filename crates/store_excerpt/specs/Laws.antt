-- A theorem about boards.
use Rattle.std.specs.Prelude.{ℕ, List, Option}
use Rattle.std.specs.List.{All}
use Rattle.pattern_tree.specs.Content.{Content}
use Rattle.pattern_query.specs.Questions.{AreComplete, IsStored, tree_at}
use Rattle.section_store.specs.Sections.{Form}
use Rattle.store_excerpt.specs.Board.{AreWholeAmong}

-- If the trees of some stops are there, and each of them is whole, they are complete, and no path of theirs has more rides than
-- were asked.
abbrev pub WholeIsComplete : Type 0
WholeIsComplete =
    (form : Form) (board : List (Option Content)) (froms : List ℕ)
    → AreWholeAmong form froms board → All (IsStored (tree_at board)) froms → AreComplete form.table (tree_at board) form.rides froms
