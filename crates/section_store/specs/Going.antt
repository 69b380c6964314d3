-- How a store goes on: its trees are stored one after the other, in a storing order.
use Rattle.std.specs.Prelude.{ℕ, List, ◌++◌}
use Rattle.std.specs.List.{All}
use mathlib.Core.List.{IsPrefix}
use Rattle.disk_model.specs.Disk.{State}
use Rattle.disk_model.specs.Moments.{Leaves, LeavesOnly}
use Rattle.pattern_tree.specs.Content.{Content}
use Rattle.section_store.specs.Lasting.{HasSource, LosesNothing, StaysTrusted}
use Rattle.section_store.specs.Sections.{Form, Stands, sources}
use Rattle.section_store.specs.Store.{Holds}

-- the bytes stand for these trees, in this order, and for others after them; the sources of all are a front of the storing order
pub record StandsForMore (form : Form) (trees : List Content) (storing bytes : List ℕ) : Type 0 where
  pub more : List Content
  pub stands : Stands form bytes (trees ++ more)
  pub front : IsPrefix (sources (trees ++ more)) storing

-- of the sources only: the bytes stand for a front of the storing order that holds the list
pub record StandsForFront (form : Form) (list storing bytes : List ℕ) : Type 0 where
  pub trees : List Content
  pub stands : Stands form bytes trees
  pub holds : IsPrefix list (sources trees)
  pub front : IsPrefix (sources trees) storing

-- each outcome holds each of these sources
abbrev pub HoldsAll : Form → List ℕ → State → Type 0
HoldsAll form list disk = All (λ s. Leaves (HasSource form s) disk.now) list

-- the file holds trees of these sources
abbrev pub IsKept : Form → ℕ → List ℕ → State → Type 0
IsKept form place list disk = (trees : List Content) × Holds form trees place list disk

-- Since the old state each outcome at each moment has stood for a front of the storing order that holds the list. What each outcome held
-- at some moment, trees by all that they have, each outcome has held from then on. A trusted disk has stayed trusted.
pub record GoesOn (form : Form) (list storing : List ℕ) (old new : State) : Type 0 where
  pub leaves : LeavesOnly old new (StandsForFront form list storing)
  pub loses : LosesNothing form old new
  pub trusts : StaysTrusted form old new
