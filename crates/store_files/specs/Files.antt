-- How a run opens the file of a store.
use Rattle.std.specs.Prelude.{◌≡◌, ◌↔◌, ◌⊎◌, ℕ, List, [], ◌∷◌, ◌++◌, Bool, true, false, MatchBool, Option, None, Some, Ok, Err, codes}
use Rattle.disk_model.specs.declared.fault.FileFault.{FileFault}
use Rattle.disk_model.specs.declared.fault.FileFault.TheVariants as files
use Rattle.file_kinds.specs.Kinds.{CanOpen, IsNamedAfterGate}
use Rattle.store_faults.specs.declared.fault.RecoverFault.TheVariants.{Device, NotAStore}
use Rattle.section_store.specs.Beginnings.{CanBegin}
use Rattle.section_store.specs.Sections.{Form, IsFresh}
use Rattle.faults.specs.declared.fault.Fault.{Fault}
use Rattle.faults.specs.declared.fault.Fault.TheVariants as faults
use Rattle.shown_ids.specs.Shown.{shown}
use Rattle.store_terms.specs.Stores.{OnlyFailing}
use Rattle.streams.specs.Streams.{IsSaid, StreamData}
use Rattle.store_files.specs.Disks.{DiskView}

-- why the file of a store can't be opened: another process has it, or the system refused
abbrev pub of_file : FileFault → Fault
of_file files.InUse = faults.StoreInUse
of_file files.Failed = faults.Store Device

-- The file was opened as a disk, and looked at: a store may be opened there, or a new one begun. Nothing was done to it.
pub record IsReady {D : Type 0} (v : DiskView D) (form : Form) (path : List ℕ) (disk : D) (is_new : Bool) : Type 0 where
  pub first : D
  pub opened : v.opens path (Ok first)
  pub honest : v.honest first ↔ v.honest disk
  pub same : v.honest first → v.state disk ≡ v.state first
  pub may : v.honest first → MatchBool is_new (CanBegin form (v.state first).read) (¬ IsFresh (v.state first).read)
  pub counted : v.failures disk ≡ v.failures first

-- why a file of these bytes isn't used: it is something else than a store; or the device or memory failed
abbrev pub WhyUnused : Form → List ℕ → Fault → Type 0
WhyUnused form bytes fault =
    ((fault ≡ faults.Store NotAStore) × (¬ CanOpen form bytes) × (¬ IsNamedAfterGate bytes))
    ⊎ (((fault ≡ faults.GateDamaged) × (¬ CanOpen form bytes) × IsNamedAfterGate bytes)
    ⊎ ((fault ≡ faults.Store Device) ⊎ (fault ≡ faults.Memory)))

-- the fault is one of a file, or memory ran out
abbrev pub IsOfFile : Fault → Type 0
IsOfFile fault =
    (fault ≡ faults.Store NotAStore) ⊎ ((fault ≡ faults.GateDamaged) ⊎ ((fault ≡ faults.Store Device) ⊎ (fault ≡ faults.Memory)))

-- The file was opened as a disk, and isn't used, for this fault. It reads as before, whatever a crash leaves of it.
pub record IsUnused {D : Type 0} (v : DiskView D) (form : Form) (path : List ℕ) (fault : Fault) (disk : Option D) : Type 0 where
  pub first : D
  pub last : D
  pub opened : v.opens path (Ok first)
  pub given_back : disk ≡ Some last
  pub honest : v.honest first ↔ v.honest last
  pub same : v.honest first → v.state last ≡ v.state first
  pub why : v.honest first → WhyUnused form (v.state first).read fault
  pub kind : IsOfFile fault
  pub counted : OnlyFailing (v.failures first) (v.failures last) fault

-- the file wasn't opened as a disk, for this fault
pub record IsRefusedFile {D : Type 0} (v : DiskView D) (path : List ℕ) (fault : Fault) (disk : Option D) : Type 0 where
  pub why : FileFault
  pub opened : v.opens path (Err why)
  pub told : fault ≡ of_file why
  pub none : disk ≡ None

-- there is no file in which the store may be opened
abbrev pub IsKeptOut : {D : Type 0} → DiskView D → Form → List ℕ → Fault → Option D → Type 0
IsKeptOut v form path fault disk = IsRefusedFile v path fault disk ⊎ IsUnused v form path fault disk

-- standard error says that a new store is begun in that file, if one is
abbrev pub IsNoticed : List ℕ → Bool → StreamData → StreamData → Type 0
IsNoticed path true old new = IsSaid (codes "tp: a new store is begun in " ++ (shown path ++ 10 ∷ [])) old new
IsNoticed path false old new = new ≡ old
