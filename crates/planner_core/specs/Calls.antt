-- The four calls of the disk by which a tree is put, each done or failed.
use Rattle.std.specs.Prelude.{◌≡◌, ℕ, ◌+◌, Bool, true, false, List, [], ◌∷◌, ◌++◌}
use Rattle.disk_model.specs.Disk.{State, after_sync, after_write, WriteFailed}
use Rattle.pattern_tree.specs.Content.{Content}
use Rattle.pattern_tree.specs.Finished.{FinishedTree}
use Rattle.section_store.specs.Lasting.{LosesNothing}
use Rattle.section_store.specs.Sections.{open_gate}
use Rattle.section_store.specs.Store.{Holds, IsBody, IsOpened, IsRest, WroteBody, BodyFailed}
use Rattle.section_store.specs.declared.step.Step.{Step}
use Rattle.section_store.specs.declared.step.Step.TheVariants.{WriteBody, SyncBody, OpenGate, SyncGate, Failed}
use Rattle.planner_core.specs.Views.{ArchiveView}

-- how long the section is that was written, while its gate isn't open for good
abbrev pub extent_of : Step → ℕ → ℕ
extent_of WriteBody extent = 0
extent_of SyncBody extent = extent
extent_of OpenGate extent = extent
extent_of SyncGate extent = extent
extent_of Failed extent = 0

-- after a call that failed none comes any more, and the disk is as the call left it
abbrev pub after_failure : State → ArchiveView → ArchiveView
after_failure disk a = record a { extent = 0; next = Failed; disk = disk }

-- after a call that was done: the disk, and the call that comes next
abbrev pub after_call : Step → State → ArchiveView → ArchiveView
after_call next disk a = record a { next = next; disk = disk }

-- the put of a source has begun
abbrev pub with_put : ℕ → ArchiveView → ArchiveView
with_put source a = record a { storing = a.storing ++ source ∷ [] }

-- What the file has after a call that was done, whatever trees it had before. In turn that is: at rest, and the section of the tree after
-- them; the same section after the same trees; the section opened; that tree after them, at rest.
abbrev pub AddsSection : Content → ArchiveView → ArchiveView → Type 0
AddsSection tree old new =
    (trees : List Content) → Holds old.form trees old.place old.stored old.disk → IsBody old.form trees tree new.place new.extent new.disk

abbrev pub KeepsSection : ArchiveView → ArchiveView → Type 0
KeepsSection old new =
    (trees : List Content) (tree : Content) → IsBody old.form trees tree old.place old.extent old.disk
    → IsBody old.form trees tree new.place new.extent new.disk

abbrev pub OpensSection : ArchiveView → ArchiveView → Type 0
OpensSection old new =
    (trees : List Content) (tree : Content) → IsBody old.form trees tree old.place old.extent old.disk
    → IsOpened old.form (trees ++ tree ∷ []) (new.place + new.extent) new.disk

abbrev pub Rests : ArchiveView → ArchiveView → Type 0
Rests old new =
    (trees : List Content) → IsOpened old.form trees (old.place + old.extent) old.disk → IsRest old.form trees new.place new.disk

-- what each outcome held, each outcome holds: a source, and trees with which the list begins
abbrev pub Lasts : ArchiveView → ArchiveView → Type 0
Lasts old new = LosesNothing old.form old.disk new.disk

-- the section of a tree is written after the closed gate
abbrev pub WritesSection : Bool → FinishedTree → ArchiveView → ArchiveView → Type 0
WritesSection true t old new =
    (disk : State) × BodyFailed old.form t.tree old.place old.disk disk × (new ≡ after_failure disk (with_put t.tree.source old))
    × Lasts old new
WritesSection false t old new =
    (size : ℕ) × (disk : State) × WroteBody old.form t.tree old.place size old.disk disk
    × (new ≡ record old { extent = size; next = SyncBody; disk = disk; storing = old.storing ++ t.tree.source ∷ [] }) × Lasts old new
    × AddsSection t.tree old new

-- it is brought to the disk
abbrev pub SyncsSection : Bool → ArchiveView → ArchiveView → Type 0
SyncsSection true old new = (new ≡ after_failure old.disk old) × Lasts old new
SyncsSection false old new = (new ≡ after_call OpenGate (after_sync old.disk) old) × Lasts old new × KeepsSection old new

-- the gate before it is opened
abbrev pub OpensGate : Bool → ArchiveView → ArchiveView → Type 0
OpensGate true old new = (disk : State) × WriteFailed old.place 1 old.disk disk × (new ≡ after_failure disk old) × Lasts old new
OpensGate false old new =
    (new ≡ after_call SyncGate (after_write old.place (open_gate ∷ []) old.disk) old) × Lasts old new × OpensSection old new

-- that is brought to the disk, and then the source has its receipt: its tree is stored, and the closed gate stands after it
abbrev pub SyncsGate : Bool → ℕ → ArchiveView → ArchiveView → Type 0
SyncsGate true source old new = (new ≡ after_failure old.disk old) × Lasts old new
SyncsGate false source old new =
    (new ≡ record old {
      stored = old.stored ++ source ∷ [];
      place = old.place + old.extent;
      extent = 0;
      next = WriteBody;
      disk = after_sync old.disk;
      acknowledged = old.acknowledged ++ source ∷ [];
    }) × Lasts old new × Rests old new
