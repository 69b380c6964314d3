-- What an excerpt shows of a file, and the disk that its opening leaves.
use Rattle.std.specs.Prelude.{◌≡◌, ℕ, List, Option, Result, Ok, Err}
use Rattle.std.specs.List.{All}
use Rattle.disk_model.specs.Disk.{State}
use Rattle.pattern_tree.specs.Content.{Content}
use Rattle.section_store.specs.Lasting.{IsExact, IsTrusted}
use Rattle.section_store.specs.Sections.{Form, Stands, sources}
use Rattle.store_excerpt.specs.Board.{AreOf, AreWholeAmong, IsWholeAmong}
use Rattle.store_excerpt.specs.StoreView.{StoreView}

-- The file stands for the trees of the list, and each tree on the board is one of them. If those of some stops are whole there, they are
-- whole on the board; and of a trusted disk all of them are exact.
pub record ShowsWhole (form : Form) (disk : State) (list : List ℕ) (board : List (Option Content)) : Type 0 where
  pub trees : List Content
  pub stands : Stands form disk.read trees
  pub are : list ≡ sources trees
  pub same : AreOf trees board
  pub whole : (froms : List ℕ) → All (IsWholeAmong form froms) trees → AreWholeAmong form froms board
  pub trusted : IsTrusted form disk → All (IsExact form) trees

-- the disk of the open store, or the one that was given back
abbrev pub disk_after : {D E : Type 0} → Result (StoreView D) (E × D) → D
disk_after (Ok store) = store.disk
disk_after (Err refused) = refused.1
