-- The store that a question is answered from.
use Rattle.std.specs.Prelude.{◌≡◌, ℕ, List, Option, Some}
use Rattle.disk_model.specs.Disk.{State}
use Rattle.timetable.specs.Table.{stops_of}
use Rattle.pattern_tree.specs.Content.{Content}
use Rattle.feed_ids.specs.Names.{stops_at}
use Rattle.recovery.specs.Opening.{IsOpening, StandsForSources}
use Rattle.store_excerpt.specs.Board.{ShowsAmong}
use Rattle.store_excerpt.specs.Excerpt.{ShowsWhole}
use Rattle.questions.specs.declared.question.Question.{Question}
use Rattle.feed_basis.specs.Basis.{BasisData, IsSound}
use Rattle.store_terms.specs.Stores.{form_over}

-- The file stands for a list of sources, and nothing was done but to open it. Of the list, the board shows the trees of the stops that the
-- question leaves from: each as the file has it.
pub record Shows (basis : BasisData) (k : ℕ) (old new : State) (question : Question) (list : List ℕ) (board : List (Option Content)) : Type 0 where
  pub sound : IsSound basis
  pub stands : StandsForSources (form_over basis k) list old.read
  pub opening : IsOpening (form_over basis k) old new
  pub kept : List ℕ
  pub are_kept : (froms : List ℕ) → stops_at basis.names question.from.now ≡ Some froms → kept ≡ froms
  pub shows : ShowsAmong (stops_of basis.timetable) kept list board
  pub whole : ShowsWhole (form_over basis k) old list board
