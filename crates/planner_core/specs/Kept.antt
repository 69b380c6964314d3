-- Which trees a file keeps and a board shows: those that a recovery gave, and those that were acknowledged since.
use Rattle.std.specs.Prelude.{◌≡◌, ℕ, ◌+◌, Option, Some, None, List, [], ◌∷◌, ◌++◌}
use Rattle.std.specs.List.{All, Contains}
use mathlib.Core.List.{IsPrefix}
use Rattle.disk_model.specs.Disk.{State}
use Rattle.disk_model.specs.Moments.{Leaves}
use Rattle.pattern_tree.specs.Content.{Content}
use Rattle.pattern_tree.specs.Finished.{FinishedTree}
use Rattle.section_store.specs.Lasting.{BeginsWith}
use Rattle.section_store.specs.Sections.{Form, Stands, sources}
use Rattle.section_store.specs.Store.{IsBody, IsDurable, IsOpened, IsRest}
use Rattle.section_store.specs.declared.step.Step.{Step as DiskCall}
use Rattle.section_store.specs.declared.step.Step.TheVariants.{WriteBody, SyncBody, OpenGate, SyncGate, Failed}
use Rattle.planner_core.specs.Steps.{Shows, StepsTo}
use Rattle.planner_core.specs.Views.{Basis, HandView, RunningView, Phase, disk_in, runs, stopped}
use Rattle.planner_core.specs.declared.hand.Put.{Put}
use Rattle.planner_core.specs.declared.hand.Put.TheVariants.{Waiting, Begun, Done}
use Rattle.planner_core.specs.declared.step.Step.{Step}
use Rattle.planner_core.specs.declared.step.Reply.{Reply}
use Rattle.planner_core.specs.declared.step.Reply.TheVariants as replies

-- one of the trees is shown so
pub record IsShownOf (trees : List Content) (shown : Content) : Type 0 where
  pub tree : Content
  pub has : Contains trees tree
  pub shows : Shows tree shown

-- In hand is the tree of the source, by how far its put has come. Once the source has its receipt the tree is one of these, until it is
-- shown. Before its put and after it no put is under way.
abbrev pub IsHeldOf : List Content → DiskCall → Put → ℕ → Option FinishedTree → Type 0
IsHeldOf trees next Waiting source tree = (next ≡ WriteBody) × ((t : FinishedTree) × (tree ≡ Some t) × (t.tree.source ≡ source))
IsHeldOf trees next Begun source tree = (t : FinishedTree) × (tree ≡ Some t) × (t.tree.source ≡ source)
IsHeldOf trees next Done source tree = (next ≡ WriteBody) × ((t : FinishedTree) → tree ≡ Some t → Contains trees t.tree)

abbrev pub IsHandOf : List Content → DiskCall → Option HandView → Type 0
IsHandOf trees next None = next ≡ WriteBody
IsHandOf trees next (Some h) = IsHeldOf trees next h.put h.source h.tree

-- the tree in hand, until the board has it
abbrev pub tree_in : Option HandView → Option FinishedTree
tree_in None = None
tree_in (Some h) = h.tree

-- What the file has when that call of the disk comes next: these trees. After them it has, once it was written, the section of the tree in
-- hand, at last opened.
abbrev pub HasFile : DiskCall → Form → List Content → Option FinishedTree → ℕ → ℕ → State → Type 0
HasFile WriteBody form trees tree place extent disk = IsRest form trees place disk
HasFile SyncBody form trees tree place extent disk = (t : FinishedTree) × (tree ≡ Some t) × IsBody form trees t.tree place extent disk
HasFile OpenGate form trees tree place extent disk = (t : FinishedTree) × (tree ≡ Some t) × IsBody form trees t.tree place extent disk
HasFile SyncGate form trees tree place extent disk =
    (t : FinishedTree) × (tree ≡ Some t) × IsOpened form (trees ++ t.tree ∷ []) (place + extent) disk
HasFile Failed form trees tree place extent disk = Unit {0}

-- what runs stores just these trees, and shows only such
pub record ShowsOnly (trees : List Content) (u : RunningView) : Type 0 where
  pub stored : u.archive.stored ≡ sources trees
  pub board : All (IsShownOf trees) u.board
  pub hand : IsHandOf trees u.archive.next u.hand
  pub file : HasFile u.archive.next u.archive.form trees (tree_in u.hand) u.archive.place u.archive.extent u.archive.disk

-- what a crash has left shows nothing, and is all that reads give
abbrev pub ShowsNoOther : List Content → Phase → Type 0
ShowsNoOther kept (runs u) = ShowsOnly kept u
ShowsNoOther kept (stopped d) = IsDurable d.disk

-- Each outcome of the disk stands for the kept trees, by all that they have, in this order, and for others after them. Only kept trees
-- are shown.
pub record ShowsKept (form : Form) (kept : List Content) (phase : Phase) : Type 0 where
  pub left : Leaves (BeginsWith form kept) (disk_in phase).now
  pub only : ShowsNoOther kept phase

-- with the receipt of its source the tree in hand is kept too
abbrev pub Acknowledges : RunningView → Reply → List Content → List Content → Type 0
Acknowledges u (replies.Receipt s) kept after =
    (h : HandView) × (t : FinishedTree) × (u.hand ≡ Some h) × (h.tree ≡ Some t) × (t.tree.source ≡ s) × (after ≡ kept ++ t.tree ∷ [])
Acknowledges u reply kept after = after ≡ kept

-- a recovery gives the trees that the bytes stand for; the kept ones are the first of them
abbrev pub Recalls : Form → List ℕ → Reply → List Content → List Content → Type 0
Recalls form bytes (replies.Restarted list) kept after = Stands form bytes after × IsPrefix kept after
Recalls form bytes reply kept after = after ≡ kept

-- which trees are kept after a step
abbrev pub KeptAfter : Form → Phase → Reply → List Content → List Content → Type 0
KeptAfter form (runs u) reply kept after = Acknowledges u reply kept after
KeptAfter form (stopped d) reply kept after = Recalls form d.disk.read reply kept after

-- One event after the other is replied so. Beside the kept trees those are kept that get a receipt; a recovery begins again with those
-- that it gives. At each point of the run each outcome of the disk begins with the kept trees, and the board shows only kept trees.
abbrev pub ShowsKeptAlong : Basis → List Content → Phase → List Step → List Reply → List Content → Phase → Type 0
ShowsKeptAlong basis kept old [] [] end new = ShowsKept basis.form kept old × (end ≡ kept) × (new ≡ old)
ShowsKeptAlong basis kept old [] (reply ∷ replies) end new = ⊥
ShowsKeptAlong basis kept old (event ∷ events) [] end new = ⊥
ShowsKeptAlong basis kept old (event ∷ events) (reply ∷ replies) end new =
    (mid : Phase) × (after : List Content) × ShowsKept basis.form kept old × StepsTo basis event old reply mid
    × KeptAfter basis.form old reply kept after × ShowsKeptAlong basis after mid events replies end new
