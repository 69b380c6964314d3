-- What the program says of a migration, and what stands on both disks then.
use Rattle.std.specs.Prelude.{◌≡◌, ℕ, List, length}
use Rattle.disk_model.specs.Disk.{State}
use Rattle.disk_model.specs.Moments.{Leaves}
use Rattle.pattern_tree.specs.Content.{Content}
use Rattle.section_store.specs.Sections.{Stands}
use Rattle.section_store.specs.declared.fault.PutFault.{PutFault}
use Rattle.section_store.specs.declared.fault.PutFault.TheVariants as puts
use Rattle.store_faults.specs.declared.fault.RecoverFault.TheVariants.{Device}
use Rattle.migration.specs.Migration.{IsRead, Migrates, Stopped}
use Rattle.migration.specs.declared.fault.MigrateFault.{MigrateFault}
use Rattle.migration.specs.declared.fault.MigrateFault.TheVariants as migrations
use Rattle.answer_lines.specs.declared.report.Report.{Report}
use Rattle.answer_lines.specs.declared.report.Report.TheVariants as reports
use Rattle.faults.specs.Faults.{of_migrated}
use Rattle.faults.specs.declared.fault.Fault.{Fault}
use Rattle.faults.specs.declared.fault.Fault.TheVariants as faults
use Rattle.faults.specs.declared.migrating.Side.TheVariants as sides
use Rattle.faults.specs.declared.migrating.StoreFault.TheVariants as files
use Rattle.feed_basis.specs.Basis.{BasisData}
use Rattle.store_terms.specs.Stores.{form_over, old_form_over}

-- The old file stood for the trees, and each crash leaves one that does. The new file was found to have the first of them; from then on
-- each outcome at each moment stands for a beginning of the list, and at the end for all of it. So many are reported.
pub record IsTakenOver (basis : BasisData) (k : ℕ) (old old_now target new : State) (report : Report) : Type 0 where
  pub trees : List Content
  pub read : IsRead (old_form_over basis k) old old_now trees
  pub migrates : Migrates (old_form_over basis k) (form_over basis k) old target new trees
  pub stands : Stands (form_over basis k) new.read trees
  pub settled : Leaves (λ bytes. Stands (form_over basis k) bytes trees) new.now
  pub told : report ≡ reports.Migrated (length trees)

-- Why a tree isn't put: the file would be too large, the device failed, or memory ran out. The other faults of a put don't come of an
-- honest disk.
abbrev pub of_put : PutFault → Fault
of_put puts.Device = faults.PutFailed
of_put puts.TooLarge = faults.FileTooLarge
of_put puts.Memory = faults.Memory
of_put puts.AlreadyStored = faults.OtherList
of_put puts.Failed = faults.OtherList
of_put puts.OtherTimetable = faults.OtherList

-- why a store isn't taken over: a file that isn't used, by whose it is; or the lists; or a put
abbrev pub of_migration : MigrateFault → Fault
of_migration (migrations.Old fault) = of_migrated sides.Old fault
of_migration (migrations.New fault) = of_migrated sides.New fault
of_migration migrations.OtherList = faults.OtherList
of_migration (migrations.Put fault) = of_put fault

-- the store isn't taken over, or not all of it
pub record IsUntaken (basis : BasisData) (k : ℕ) (old old_now target new : State) (fault : Fault) : Type 0 where
  pub why : MigrateFault
  pub stopped : Stopped (old_form_over basis k) (form_over basis k) old old_now target new why
  pub told : fault ≡ of_migration why

-- the fault says that a call of the old disk failed
abbrev pub TellsOldDevice : Fault → Type 0
TellsOldDevice fault = fault ≡ faults.Migration sides.Old (files.Recover Device)
