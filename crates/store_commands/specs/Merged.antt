-- The parts of a merge: how their files are opened, and their stores read.
use Rattle.std.specs.Prelude.{◌≡◌, ◌⊎◌, ◌<◌, ℕ, List, Bool, Option, map, length, take}
use Rattle.std.specs.List.{All, AllZip, flat_map}
use Rattle.disk_model.specs.Disk.{State}
use Rattle.pattern_tree.specs.Content.{Content}
use Rattle.section_store.specs.Lasting.{IsExact, IsTrusted}
use Rattle.section_store.specs.Sections.{Form, Stands}
use Rattle.recovery.specs.Recovery.{IsLeftAlone}
use Rattle.merging.specs.Laws.{Agree}
use Rattle.part_shelf.specs.Comparing.{FailsOnly}
use Rattle.part_shelf.specs.Shelves.{Has, WhyNot, form_for}
use Rattle.part_shelf.specs.declared.fault.PartFault.{PartFault}
use Rattle.part_shelf.specs.declared.shelf.PartShelf.{PartShelf}
use Rattle.faults.specs.Faults.{in_part}
use Rattle.faults.specs.declared.fault.Fault.{Fault}
use Rattle.faults.specs.declared.fault.Fault.TheVariants as faults
use Rattle.feed_basis.specs.Basis.{BasisData}
use Rattle.store_merging.specs.Telling.{IsOfRefusal, IsPathOf}
use Rattle.store_terms.specs.Stores.{form_over}
use Rattle.store_files.specs.Files.{IsKeptOut, IsReady}
use Rattle.store_files.specs.Disks.{DiskView}
use denote.Ref.{Bor}

-- the file of the path was opened as this disk, in which a store stands or may be begun
abbrev pub IsOpened : {D : Type 0} → DiskView D → Form → List ℕ → D → Type 0
IsOpened v form path disk = (is_new : Bool) × IsReady v form path disk is_new

-- those of all these paths were, in their order
abbrev pub AreOpened : {D : Type 0} → DiskView D → Form → List (Bor (List ℕ)) → List D → Type 0
AreOpened v form paths disks = AllZip (λ path disk. IsOpened v form path.now disk) paths disks

-- the trees of parts, one part after the other
abbrev pub joined : List (List Content) → List Content
joined lists = flat_map (λ trees. trees) lists

-- The file of each disk stood for one of these lists of trees. Nothing was done to a disk since it was opened but at most a sync, and they
-- are in these states. Of a trusted disk the trees are exact. No two trees of a stop differ.
pub record AreRead {D : Type 0} (v : DiskView D) (form : Form) (disks : List D) (states : List State) (lists : List (List Content)) : Type 0 where
  pub stand : AllZip (λ disk trees. Stands form (v.state disk).read trees) disks lists
  pub alone : AllZip (λ disk now. IsLeftAlone (v.state disk) now) disks states
  pub exact : AllZip (λ disk trees. IsTrusted form (v.state disk) → All (IsExact form) trees) disks lists
  pub agree : Agree (joined lists)

-- if the calls of all these disks can be believed, their files were read, and this holds of their states and their trees
pub record AreReadTo {D : Type 0} (v : DiskView D) (form : Form) (disks : List D) (Holds : List State → List Content → Type 0) : Type 0 where
  pub states : List State
  pub lists : List (List Content)
  pub read : AreRead v form disks states lists
  pub holds : Holds states (joined lists)

abbrev pub IfHonest : {D : Type 0} → DiskView D → Form → List D → (List State → List Content → Type 0) → Type 0
IfHonest v form disks Holds = All v.honest disks → AreReadTo v form disks Holds

-- the files of these paths were opened, and the shelf has the trees of their stores
pub record AreShelved {D : Type 0} (v : DiskView D) (form : Form) (paths : List (Bor (List ℕ))) (shelf : PartShelf D) : Type 0 where
  pub disks : List D
  pub opened : AreOpened v form paths disks
  pub form_is : form_for shelf ≡ form
  pub failed : map v.failures shelf.disks.items ≡ map v.failures disks
  pub has : IfHonest v form disks (Has v.honest v.state shelf)

-- the file of the part of that index isn't used, and that is the fault
pub record IsPartKeptOut {D : Type 0} (v : DiskView D) (form : Form) (paths : List (Bor (List ℕ))) (number : ℕ) (fault : Fault) : Type 0 where
  pub path : Bor (List ℕ)
  pub path_is : IsPathOf paths number path
  pub why : Fault
  pub disk : Option D
  pub kept_out : IsKeptOut v form path.now why disk
  pub told : fault ≡ in_part path why

-- It was opened, and its store isn't taken after those on these disks, for this fault. Nothing was done to it but at most a sync. A fault
-- that says that a call of a disk failed comes only if one more did, of the disk of that part.
pub record IsPartRefused {D : Type 0} (v : DiskView D) (basis : BasisData) (k : ℕ) (paths : List (Bor (List ℕ))) (disks : List D) (number : ℕ)
    (fault : Fault) : Type 0 where
  pub path : Bor (List ℕ)
  pub path_is : IsPathOf paths number path
  pub first : D
  pub last : D
  pub opened : IsOpened v (form_over basis k) path.now first
  pub why : PartFault
  pub told : IsOfRefusal basis paths number why fault
  pub right : v.honest first → IfHonest v (form_over basis k) disks
      (λ states all. WhyNot (form_over basis k) (v.state first).read states all why × IsLeftAlone (v.state first) (v.state last))
  pub failed : List ℕ
  pub fails : FailsOnly (map v.failures disks) failed (v.failures first) (v.failures last) why

-- why the part of that index isn't taken after those on these disks
abbrev pub IsUntaken : {D : Type 0} → DiskView D → BasisData → ℕ → List (Bor (List ℕ)) → List D → ℕ → Fault → Type 0
IsUntaken v basis k paths disks number fault =
    IsPartKeptOut v (form_over basis k) paths number fault ⊎ IsPartRefused v basis k paths disks number fault

-- the parts before one were opened and taken, and that one isn't
pub record IsAtFault {D : Type 0} (v : DiskView D) (basis : BasisData) (k : ℕ) (paths : List (Bor (List ℕ))) (fault : Fault) : Type 0 where
  pub number : ℕ
  pub within : number < length paths
  pub disks : List D
  pub before : AreOpened v (form_over basis k) (take number paths) disks
  pub untaken : IsUntaken v basis k paths disks number fault

-- not all parts are taken, or memory ran out
abbrev pub IsUnshelved : {D : Type 0} → DiskView D → BasisData → ℕ → List (Bor (List ℕ)) → Fault → Type 0
IsUnshelved v basis k paths fault = (fault ≡ faults.Memory) ⊎ IsAtFault v basis k paths fault
