-- What a migration does to the two disks.
use Rattle.std.specs.Prelude.{◌≡◌, ◌≢◌, List, ℕ}
use Rattle.std.specs.List.{Contains}
use Rattle.disk_model.specs.Image.{IsOutcome}
use Rattle.disk_model.specs.Disk.{State}
use Rattle.disk_model.specs.Moments.{Leaves, LeavesOnly}
use Rattle.pattern_tree.specs.Content.{Content}
use Rattle.section_store.specs.Fault.{IsTooLarge}
use mathlib.Core.List.{IsPrefix}
use Rattle.section_store.specs.Between.{GoesBetween}
use Rattle.section_store.specs.Lasting.{IsTrusted, StaysTrusted}
use Rattle.section_store.specs.Sections.{Form, Stands}
use Rattle.recovery.specs.Recovery.{CauseOf, StandsAsBefore}
use Rattle.section_store.specs.declared.fault.PutFault.TheVariants.{AlreadyStored, TooLarge}
use Rattle.migration.specs.declared.fault.MigrateFault.{MigrateFault}
use Rattle.migration.specs.declared.fault.MigrateFault.TheVariants.{Old, New, OtherList, Put}

-- The old file stood for the trees, and after it was read each crash leaves a file that does.
pub record IsRead (was : Form) (old now : State) (trees : List Content) : Type 0 where
  pub stands : Stands was old.read trees
  pub settled : Leaves (λ bytes. Stands was bytes trees) now.now

-- The new disk was recovered at some moment, up to which it was left as it might have been left on entry. Its list was found to be a
-- beginning of the old one; from then on each outcome at each moment stands for a beginning of the old list that begins with it, by
-- all that the trees have. If the old disk is trusted, the new one is from then on, whatever it was before.
pub record Migrates (was form : Form) (old target new : State) (trees : List Content) : Type 0 where
  pub found : List Content
  pub front : IsPrefix found trees
  pub recovered : State
  pub before : LeavesOnly target recovered (StandsAsBefore form target)
  pub rest : Leaves (λ bytes. Stands form bytes found) recovered.now
  pub goes : GoesBetween form found trees recovered new
  pub trusted : IsTrusted was old → IsTrusted form recovered
  pub trusts : IsTrusted was old → StaysTrusted form recovered new

-- with a section of one of the trees, after some gate, the file would pass its limit
pub record OneIsTooLarge (form : Form) (trees : List Content) : Type 0 where
  pub tree : Content
  pub one : Contains trees tree
  pub place : ℕ
  pub large : IsTooLarge form tree place

-- the new file stood for trees with which the old ones don't begin; nothing was put
pub record IsOtherList (was form : Form) (old target new : State) (trees : List Content) : Type 0 where
  pub found : List Content
  pub stands : Stands form target.read found
  pub other : ¬ IsPrefix found trees
  pub before : LeavesOnly target new (StandsAsBefore form target)

-- what stands on the new disk after a fault, by the old list if it was read
abbrev pub Stopped : Form → Form → State → State → State → State → MigrateFault → Type 0
Stopped was form old old_now target new (Old fault) = CauseOf was old.read fault × (new ≡ target)
Stopped was form old old_now target new (New fault) =
    ((trees : List Content) × IsRead was old old_now trees) × CauseOf form target.read fault × LeavesOnly target new (StandsAsBefore form target)
Stopped was form old old_now target new OtherList =
    (trees : List Content) × IsRead was old old_now trees × IsOtherList was form old target new trees
Stopped was form old old_now target new (Put fault) =
    (trees : List Content) × IsRead was old old_now trees × Migrates was form old target new trees
    × (fault ≢ AlreadyStored) × (fault ≡ TooLarge → OneIsTooLarge form trees)

-- whatever a crash leaves of both disks then, what the new file stands for is a beginning of what the old one does
abbrev pub RunsAgain : Type 0
RunsAgain =
    (was form : Form) (old now target new : State) (trees : List Content) → IsRead was old now trees → Migrates was form old target new trees
    → (left kept : List ℕ) (list found : List Content) → IsOutcome now.now left → IsOutcome new.now kept → Stands was left list → Stands form kept found
    → IsPrefix found list
