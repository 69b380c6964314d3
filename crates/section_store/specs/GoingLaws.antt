-- Theorems about a store that goes on.
use Rattle.std.specs.Prelude.{◌≡◌, ℕ, List, [], ◌∷◌, ◌++◌}
use Rattle.disk_model.specs.Disk.{State}
use Rattle.disk_model.specs.Moments.{Leaves, LeavesOnly}
use Rattle.pattern_tree.specs.Content.{Content}
use mathlib.Core.List.{IsPrefix}
use Rattle.section_store.specs.Going.{StandsForMore, HoldsAll, IsKept, GoesOn}
use Rattle.section_store.specs.Lasting.{LosesNothing, StaysTrusted}
use Rattle.section_store.specs.Sections.{Form, IsBeforeOrAfter, sources}
use Rattle.section_store.specs.Store.{Holds}

-- a crash of a store at rest leaves the trees that it holds, by all that they have, however the storing order goes on
abbrev pub HeldStandsForMore : Type 0
HeldStandsForMore =
    (form : Form) (trees : List Content) (place : ℕ) (list storing : List ℕ) (disk : State)
    → Holds form trees place list disk → IsPrefix list storing → Leaves (StandsForMore form trees storing) disk.now

-- what a store at rest has stored, each outcome holds
abbrev pub KeptIsHeld : Type 0
KeptIsHeld = (form : Form) (place : ℕ) (list : List ℕ) (disk : State) → IsKept form place list disk → HoldsAll form list disk

-- what each outcome holds, each outcome holds from then on
abbrev pub HeldForGood : Type 0
HeldForGood = (form : Form) (list : List ℕ) (old new : State) → LosesNothing form old new → HoldsAll form list old → HoldsAll form list new

-- a store goes on if nothing is done to it
abbrev pub NothingGoesOn : Type 0
NothingGoesOn = (form : Form) (list storing : List ℕ) (old new : State) → new ≡ old → GoesOn form list storing old new

-- a store goes on by a put, with the tree's source after its list
abbrev pub PutGoesOn : Type 0
PutGoesOn =
    (form : Form) (list : List ℕ) (trees : List Content) (tree : Content) (old new : State)
    → list ≡ sources trees → LeavesOnly old new (IsBeforeOrAfter form trees tree) → LosesNothing form old new → StaysTrusted form old new
    → GoesOn form list (list ++ tree.source ∷ []) old new

-- a store that went on, and then with all that was to be stored, went on altogether
abbrev pub GoesOnInTurn : Type 0
GoesOnInTurn =
    (form : Form) (list storing more : List ℕ) (old mid new : State)
    → IsPrefix list storing → GoesOn form list storing old mid → GoesOn form storing (storing ++ more) mid new
    → GoesOn form list (storing ++ more) old new

-- while a store goes on, each outcome begins with the trees that the store held: none of them is replaced, not even by another tree of
-- its source
abbrev pub GoesOnByTrees : Type 0
GoesOnByTrees =
    (form : Form) (trees : List Content) (place : ℕ) (list storing : List ℕ) (old new : State)
    → Holds form trees place list old → GoesOn form list storing old new → LeavesOnly old new (StandsForMore form trees storing)

-- a disk that stayed trusted, and stayed so from then on, stayed trusted altogether
abbrev pub TrustInTurn : Type 0
TrustInTurn = (form : Form) (old mid new : State) → StaysTrusted form old mid → StaysTrusted form mid new → StaysTrusted form old new
