-- What an opening gives.
use Rattle.std.specs.Prelude.{◌≡◌, ◌⊎◌, ℕ, List, false}
use Rattle.std.specs.List.{AllZip}
use Rattle.pattern_tree.specs.Content.{Content}
use Rattle.section_store.specs.Sections.{Form, Stands, sources}
use Rattle.recovery.specs.Recovery.{CauseOf, IsOutside, StandsForNoList}
use Rattle.board.specs.Ties.{WriterData}
use Rattle.board.specs.Trees.{IsSameTree}
use Rattle.planner.specs.Desk.{DeskView}
use Rattle.planner.specs.declared.fault.OpenFault.{OpenFault}
use Rattle.planner.specs.declared.fault.OpenFault.TheVariants as faults

-- The bytes stand for a list of trees. Their sources are stored, in that order, and the board shows exactly these trees.
pub record HoldsList {D : Type 0} (bytes : List ℕ) (desk : DeskView D) : Type 0 where
  pub trees : List Content
  pub stands : Stands desk.form bytes trees
  pub stored : desk.stored ≡ sources trees
  pub shown : AllZip IsSameTree trees desk.board.told.list

-- the board was opened with the trees that it shows, and takes more
pub record IsOpened (board : WriterData) : Type 0 where
  pub opened : board.origin.opened ≡ board.told
  pub going : board.halted ≡ false

-- the fault is the device's or memory's, and says nothing of the bytes
abbrev pub IsNotTheBytes : OpenFault → Type 0
IsNotTheBytes (faults.Recover fault) = IsOutside fault
IsNotTheBytes faults.Memory = Unit {0}

-- why a planner isn't opened over a file of these bytes: by the bytes, which stand for no list then, or for the device or memory
abbrev pub IsUnopened : Form → List ℕ → OpenFault → Type 0
IsUnopened form bytes (faults.Recover fault) = CauseOf form bytes fault × (IsOutside fault ⊎ StandsForNoList form bytes)
IsUnopened form bytes faults.Memory = Unit {0}
