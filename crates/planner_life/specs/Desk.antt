-- A desk, and a desk on an honest disk.
use Rattle.std.specs.Prelude.{◌≡◌, ◌<◌, ◌↔◌, ℕ, Option, None, List, length}
use Rattle.std.specs.List.{All, Contains}
use Rattle.disk_model.specs.Disk.{State}
use Rattle.timetable.specs.Table.{stops_of}
use Rattle.pattern_tree.specs.Content.{Content}
use Rattle.pattern_query.specs.Questions.{IsStored, tree_at}
use Rattle.section_store.specs.Going.{IsKept}
use Rattle.section_store.specs.Sections.{Form, IsNew}
use Rattle.store_excerpt.specs.Board.{IsBoardOf}
use Rattle.store_excerpt.specs.StoreView.{StoreView}

-- the board of the trees of these sources, all of them stops of the timetable that the tools are for
pub record IsDesk (tools form : Form) (list : List ℕ) (board : List (Option Content)) : Type 0 where
  pub same : tools ≡ form
  pub long : length board ≡ stops_of form.table
  pub shows : IsBoardOf (stops_of form.table) list board
  pub known : All (λ s. s < stops_of form.table) list

-- of each stop of the timetable, the board has its tree exactly if the list has the stop
pub record ShowsList (stops : ℕ) (list : List ℕ) (board : List (Option Content)) : Type 0 where
  pub held : (s : ℕ) → s < stops → IsStored (tree_at board) s ↔ Contains list s
  pub missing : (s : ℕ) → s < stops → (tree_at board s ≡ None) ↔ IsNew s list

-- the disk is honest, and its file holds trees of the stored sources
pub record IsSound {D : Type 0} (honest : D → Type 0) (state : D → State) (desk : StoreView D) : Type 0 where
  pub is_honest : honest desk.disk
  pub kept : IsKept desk.form desk.place desk.stored (state desk.disk)
