-- What a task leaves of the disk of a file that was opened.
use Rattle.std.proofs.Common.{◌↔◌, ℕ, Bool, ◌&&◌, List, Some, Result, IfErr, refl, subst}
use Rattle.option_words.specs.declared.format.Style.{Style}
use Rattle.command_line.specs.Jobs.{only_reads}
use Rattle.command_line.specs.declared.job.Task.{Task}
use Rattle.feed_basis.specs.Basis.{BasisData}
use Rattle.faults.specs.declared.fault.Fault.{Fault}
use Rattle.store_terms.specs.Stores.{OnlyFailing, form_over}
use Rattle.streams.specs.Streams.{StreamData}
use Rattle.store_files.specs.Files.{IsNoticed, IsReady}
use Rattle.store_commands.specs.Tasks.{IsTaskDone}
use Rattle.store_commands.specs.Stored.{IsOverDisk}
use Rattle.store_files.specs.Disks.{DiskView}
use Rattle.feed_commands.specs.declared.found.Found.{Found}

-- what is done to a disk that is ready is done to the disk that was opened: between the two it was only looked at
pub over_disk : {D : Type 0} (v : DiskView D) (style : Style) (basis : BasisData) (k : ℕ) (path : List ℕ) (task : Task) (seen last : D)
    (is_new : Bool) (found : Result Found Fault) (old new : StreamData) → IsReady v (form_over basis k) path seen is_new → v.honest seen ↔ v.honest last
    → (v.honest seen → IsTaskDone v style basis k task (v.state seen) (v.state last) found) → IfErr found (OnlyFailing (v.failures seen) (v.failures last))
    → IsNoticed path (only_reads task && is_new) old new → IsOverDisk v style basis k path task found (Some last) old new
over_disk v style basis k path task seen last is_new found old new ready honest right device noticed = record {
  first = ready.first;
  last = last;
  is_new = is_new;
  opened = ready.opened;
  may = ready.may;
  given_back = refl;
  honest = (λ h. honest.0 (ready.honest.0 h), λ h. ready.honest.1 (honest.1 h));
  right = λ h. subst (λ s. IsTaskDone v style basis k task s (v.state last) found) (ready.same h) (right (ready.honest.0 h));
  device = subst (λ (n : ℕ). IfErr found (OnlyFailing n (v.failures last))) ready.counted device;
  noticed = noticed;
}
