-- Where the files of stores lie.
use Rattle.std.specs.Prelude.{ℕ, List, Result}
use Rattle.disk_model.specs.Disk.{State}
use Rattle.disk_model.specs.declared.fault.FileFault.{FileFault}

-- what opening the file of a path may give
abbrev pub Opens : Type 0 → Type 1
Opens D = List ℕ → Result D FileFault → Type 0

-- that; whether calls of a disk can be believed, its states, and how many of its calls failed
pub record DiskView (D : Type 0) : Type 1 where
  pub opens : Opens D
  pub honest : D → Type 0
  pub state : D → State
  pub failures : D → ℕ

abbrev pub disks_of : {D : Type 0} → Opens D → (D → Type 0) → (D → State) → (D → ℕ) → DiskView D
disks_of opens honest state failures = record { opens = opens; honest = honest; state = state; failures = failures }
