-- What a keeper was given.
use Rattle.std.specs.Prelude.{◌≡◌, ◌<◌, ℕ, List}
use Rattle.std.specs.List.{All}
use Rattle.disk_model.specs.Disk.{State}
use Rattle.timetable.specs.Table.{stops_of}
use Rattle.pattern_tree.specs.Content.{Content}
use Rattle.section_store.specs.Lasting.{IsTrusted, IsExact}
use Rattle.section_store.specs.Sections.{Form, Stands, sources}
use Rattle.section_store.specs.Store.{Holds}
use Rattle.recovery.specs.Keeping.{GivenAll}

-- The keeper was given the trees of a list one by one, and their sources are stored. Of an honest disk the bytes of the file stood for that
-- list, and the store goes on with it. Of a trusted disk each tree of it is exact.
pub record IsGiven {K : Type 0} (form : Form) (Honest : Type 0) (before : State) (Takes : K → Content → K → Type 0) (old new : K)
    (place : ℕ) (stored : List ℕ) (after : State) : Type 0 where
  pub trees : List Content
  pub given : GivenAll Takes old trees new
  pub stored_are : stored ≡ sources trees
  pub known : All (λ tree. tree.source < stops_of form.table) trees
  pub stands : Honest → Stands form before.read trees
  pub holds : Honest → Holds form trees place stored after
  pub exact : Honest → IsTrusted form before → All (IsExact form) trees
