-- What clauses see of a file of the operating system: how many calls have failed, and what is granted of it.
use Rattle.std.specs.Prelude.{ℕ}
use Rattle.file_premise.specs.Premise.{IsGranted}
use Rattle.disk_model.specs.Disk.{State, empty_disk}
use Rattle.disk_model.specs.declared.file.FileDisk.{FileDisk}

-- how many calls have failed
abbrev pub failures_in : FileDisk → ℕ
failures_in disk = disk.failures

-- the system's file does as an honest disk does: nobody can prove it, and a reader may grant it
abbrev pub IsHonestFile : FileDisk → Type 0
IsHonestFile disk = IsGranted disk.file

-- What reads of the file give, and what a crash may leave of it. The body is shut: no clause says what a file holds.
pub file_state : FileDisk → State
file_state disk = empty_disk
