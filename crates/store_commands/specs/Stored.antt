-- What is done over the file of a store.
use Rattle.std.specs.Prelude.{◌≡◌, ◌↔◌, ◌⊎◌, ℕ, List, Bool, ◌&&◌, MatchBool, Option, Some, Result, Ok, Err, IfErr}
use Rattle.section_store.specs.Beginnings.{CanBegin}
use Rattle.section_store.specs.Sections.{Form, IsFresh}
use Rattle.option_words.specs.declared.format.Style.{Style}
use Rattle.command_line.specs.Jobs.{only_reads}
use Rattle.command_line.specs.declared.job.Task.{Task}
use Rattle.command_line.specs.declared.job.Task.TheVariants as tasks
use Rattle.faults.specs.Faults.{in_migration}
use Rattle.faults.specs.declared.fault.Fault.{Fault}
use Rattle.faults.specs.declared.migrating.Side.TheVariants.{New}
use Rattle.feed_basis.specs.Basis.{BasisData}
use Rattle.store_terms.specs.Stores.{OnlyFailing, form_over}
use Rattle.streams.specs.Streams.{StreamData}
use Rattle.store_files.specs.Files.{IsKeptOut, IsNoticed}
use Rattle.store_commands.specs.Tasks.{IsTaskDone}
use Rattle.store_files.specs.Disks.{DiskView}
use Rattle.feed_commands.specs.declared.found.Found.{Found}

-- a fault of the file that is opened, as a task reports it: of the two files of a migration, it is the new one
abbrev pub told_for : Task → Fault → Fault
told_for (tasks.Ask question legs) fault = fault
told_for tasks.List fault = fault
told_for (tasks.Audit whose) fault = fault
told_for (tasks.Build workers progress part) fault = fault
told_for (tasks.Migrate old progress) fault = in_migration New fault
told_for (tasks.Merge parts progress) fault = fault

-- there was no file in which the store may be opened, and that is the fault
pub record IsShutOut {D : Type 0} (v : DiskView D) (form : Form) (path : List ℕ) (task : Task) (found : Result Found Fault) (disk : Option D)
    (old new : StreamData) : Type 0 where
  pub fault : Fault
  pub kept_out : IsKeptOut v form path fault disk
  pub is : found ≡ Err (told_for task fault)
  pub silent : new ≡ old

-- The file was opened, and the task done over its disk. A fault that says that a call of the disk failed comes only if one did. Standard error said if a
-- new store was begun.
pub record IsOverDisk {D : Type 0} (v : DiskView D) (style : Style) (basis : BasisData) (k : ℕ) (path : List ℕ) (task : Task)
    (found : Result Found Fault) (disk : Option D) (old new : StreamData) : Type 0 where
  pub first : D
  pub last : D
  pub is_new : Bool
  pub opened : v.opens path (Ok first)
  pub may : v.honest first → MatchBool is_new (CanBegin (form_over basis k) (v.state first).read) (¬ IsFresh (v.state first).read)
  pub given_back : disk ≡ Some last
  pub honest : v.honest first ↔ v.honest last
  pub right : v.honest first → IsTaskDone v style basis k task (v.state first) (v.state last) found
  pub device : IfErr found (OnlyFailing (v.failures first) (v.failures last))
  pub noticed : IsNoticed path (only_reads task && is_new) old new

abbrev pub IsOverStore : {D : Type 0} → DiskView D → Style → BasisData → ℕ → List ℕ → Task → Result Found Fault → Option D → StreamData → StreamData → Type 0
IsOverStore v style basis k path task found disk old new =
    IsShutOut v (form_over basis k) path task found disk old new ⊎ IsOverDisk v style basis k path task found disk old new
