-- A tree that is done, with what it is for.
use Rattle.std.specs.Prelude.{ℕ, ◌<◌}
use Rattle.timetable.specs.Table.{Table, IsTable, stops_of}
use Rattle.pattern_tree.specs.Content.{Content}
use Rattle.pattern_tree.specs.Completeness.{IsTreeOf}
use Rattle.pattern_tree.specs.Within.{IsWithin}

-- a tree, and the timetable and the most rides of the journeys that it is for
pub record FinishedTree : Type 0 where
  pub table : Table
  pub rides : ℕ
  pub tree : Content

-- the tree is that of a stop, has the patterns of the best journeys from it, and no others
pub record IsFinished (f : FinishedTree) : Type 0 where
  pub known : f.tree.source < stops_of f.table
  pub is : IsTreeOf f.table f.rides f.tree.source f.tree

-- each stop of a finished tree is one of its timetable
abbrev pub FinishedIsWithin : Type 0
FinishedIsWithin = (f : FinishedTree) → IsTable f.table → IsFinished f → IsWithin (stops_of f.table) f.tree
