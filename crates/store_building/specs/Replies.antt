-- What comes of replying to questions line by line, while the trees that a store lacks are built.
use Rattle.std.specs.Prelude.{ℕ, Bool, List, Option, IfSome, MatchResult}
use Rattle.std.specs.List.{All, AllZip}
use Rattle.disk_model.specs.Disk.{State}
use Rattle.stop_parts.specs.Parts.{whole}
use Rattle.pattern_tree.specs.Content.{Content}
use Rattle.section_store.specs.Lasting.{IsTrusted, IsExact}
use Rattle.section_store.specs.Sections.{Form, Stands}
use Rattle.board.specs.Ties.{BoardPart}
use Rattle.board.specs.Trees.{IsSameTree}
use Rattle.serving.specs.Answers.{IsReply}
use Rattle.serving.specs.Runs.{IsServed}
use Rattle.reply_lines.specs.Tellings.{Telling}
use Rattle.serving.specs.Tellings.{IsReplyText}
use Rattle.serving.specs.declared.serving.End.{End}
use Rattle.feed_basis.specs.Basis.{BasisData}
use Rattle.store_building.specs.Builds.{IsBuilt, IsStopped}
use Rattle.store_terms.specs.Stores.{form_over}
use Rattle.store_building.specs.Openings.{planner_over}
use Rattle.store_building.specs.declared.served.Served.{Served}

-- A reader of a board that was opened with exactly the trees that a file stood for. Of a trusted disk each has the patterns of all best
-- journeys from its source.
pub record IsOpenedReader (form : Form) (old : State) (reader : BoardPart) : Type 0 where
  pub trees : List Content
  pub stands : Stands form old.read trees
  pub opened : AllZip IsSameTree trees reader.origin.opened.list
  pub right : IsTrusted form old → All (IsExact form) reader.origin.opened.list

-- The lines of an input are replied to, each from one look of such a reader. Each reply stands there as a text of the telling, with rides and
-- walks if they are wanted.
pub record AreReplied (basis : BasisData) (k : ℕ) (tells : Telling) (wanted : Bool) (old : State) (input : List ℕ) (before after : Option (List ℕ))
    (end : End) : Type 0 where
  pub reader : BoardPart
  pub opened : IsOpenedReader (form_over basis k) old reader
  pub served : IsServed (IsReplyText tells (IsReply (planner_over basis k) basis wanted)) reader input before after end

-- The lines are replied to while a build goes on, which came to its end or was stopped.
pub record IsServing (basis : BasisData) (k : ℕ) (tells : Telling) (wanted : Bool) (old new : State) (input before after : Option (List ℕ))
    (served : Served) : Type 0 where
  pub built : MatchResult served.built (IsBuilt basis whole k old new) (IsStopped basis whole k old new)
  pub replied : IfSome input (λ bytes. AreReplied basis k tells wanted old bytes before after served.end)
