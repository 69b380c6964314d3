-- What an opened store holds, and what its opening leaves on the disk.
use Rattle.std.specs.Prelude.{◌≡◌, ℕ, List}
use Rattle.disk_model.specs.Disk.{State}
use Rattle.disk_model.specs.Moments.{LeavesOnly}
use Rattle.pattern_tree.specs.Content.{Content}
use Rattle.section_store.specs.Lasting.{LosesNothing, StaysTrusted}
use Rattle.section_store.specs.Sections.{Form, IsFresh, Stands, sources}
use Rattle.recovery.specs.Recovery.{IsLeftAlone, StandsAsBefore}

-- the bytes stand for trees of these sources, in storing order
abbrev pub StandsForSources : Form → List ℕ → List ℕ → Type 0
StandsForSources form list bytes = (trees : List Content) × Stands form bytes trees × (list ≡ sources trees)

-- Each outcome at each moment of an opening stands for what some outcome on entry stood for. What each outcome held at some moment, each
-- outcome has held from then on. A trusted disk has stayed trusted. The bytes still stand for the trees for which they stood. Only a fresh
-- file was written to.
pub record IsOpening (form : Form) (old new : State) : Type 0 where
  pub leaves : LeavesOnly old new (StandsAsBefore form old)
  pub loses : LosesNothing form old new
  pub trusts : StaysTrusted form old new
  pub still : (trees : List Content) → Stands form old.read trees → Stands form new.read trees
  pub written : (¬ IsFresh old.read) → IsLeftAlone old new
