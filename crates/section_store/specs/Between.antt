-- How a store goes on to a list of trees that is known, tree for tree.
use Rattle.std.specs.Prelude.{◌≡◌, ℕ, List, [], ◌∷◌, ◌++◌}
use mathlib.Core.List.{IsPrefix}
use Rattle.disk_model.specs.Disk.{State}
use Rattle.disk_model.specs.Moments.{Leaves, LeavesOnly}
use Rattle.pattern_tree.specs.Content.{Content}
use Rattle.section_store.specs.Lasting.{LosesNothing}
use Rattle.section_store.specs.Sections.{Form, Stands, IsBeforeOrAfter}
use Rattle.section_store.specs.Store.{Holds}

-- the bytes stand for trees that begin with the least, and that are a front of the most; trees are told apart by all that they have
pub record StandsBetween (form : Form) (least most : List Content) (bytes : List ℕ) : Type 0 where
  pub trees : List Content
  pub stands : Stands form bytes trees
  pub holds : IsPrefix least trees
  pub front : IsPrefix trees most

-- Since the old state each outcome at each moment has stood for trees between the least and the most. What each outcome held at some
-- moment, each outcome has held from then on.
pub record GoesBetween (form : Form) (least most : List Content) (old new : State) : Type 0 where
  pub leaves : LeavesOnly old new (StandsBetween form least most)
  pub loses : LosesNothing form old new

-- a crash of a store at rest leaves its trees
abbrev pub HeldStandsBetween : Type 0
HeldStandsBetween =
    (form : Form) (trees least most : List Content) (place : ℕ) (list : List ℕ) (disk : State)
    → Holds form trees place list disk → IsPrefix least trees → IsPrefix trees most → Leaves (StandsBetween form least most) disk.now

abbrev pub NothingGoesBetween : Type 0
NothingGoesBetween = (form : Form) (least most : List Content) (old new : State) → new ≡ old → GoesBetween form least most old new

-- a store goes on by a put, with the tree after its list
abbrev pub PutGoesBetween : Type 0
PutGoesBetween =
    (form : Form) (trees : List Content) (tree : Content) (old new : State)
    → LeavesOnly old new (IsBeforeOrAfter form trees tree) → LosesNothing form old new
    → GoesBetween form trees (trees ++ tree ∷ []) old new

-- a store that went on, and then with all that was to be stored, went on altogether
abbrev pub GoesBetweenInTurn : Type 0
GoesBetweenInTurn =
    (form : Form) (least mid most : List Content) (old between new : State)
    → IsPrefix least mid → IsPrefix mid most → GoesBetween form least mid old between → GoesBetween form mid most between new
    → GoesBetween form least most old new
