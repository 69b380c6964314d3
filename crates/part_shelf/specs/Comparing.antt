-- What comes of comparing trees.
use Rattle.std.specs.Prelude.{◌≡◌, ◌≢◌, ◌<◌, ℕ, List, [], ◌∷◌, ◌++◌, Some, get_or, length}
use Rattle.std.specs.List.{All, Contains}
use Rattle.disk_model.specs.Disk.{Grew, State, empty_disk}
use Rattle.pattern_tree.specs.Content.{Content}
use Rattle.section_store.specs.Sections.{Form}
use Rattle.store_faults.specs.declared.fault.RecoverFault.TheVariants.{Device}
use Rattle.merging.specs.Merging.{tree_of}
use Rattle.merging.specs.Reads.{IsSteady, OnlyFailing}
use Rattle.part_shelf.specs.Spots.{IsTextAt}
use Rattle.part_shelf.specs.declared.fault.PartFault.{PartFault}
use Rattle.part_shelf.specs.declared.fault.PartFault.TheVariants as parts

-- each of these trees is the one that all have of its stop, if they have one
abbrev pub AgreeWith : List Content → List Content → Type 0
AgreeWith all trees = All (λ tree. (other : Content) → tree_of all tree.source ≡ Some other → tree ≡ other) trees

-- one of these trees isn't the one that all have of the stop, which the file of the part of that index has at a place
pub record Differ (form : Form) (disks : List State) (all trees : List Content) (stop part : ℕ) : Type 0 where
  pub tree : Content
  pub one : Contains trees tree
  pub other : Content
  pub before : Contains all other
  pub source : tree.source ≡ stop
  pub same : other.source ≡ stop
  pub differs : tree ≢ other
  pub within : part < length disks
  pub place : ℕ
  pub size : ℕ
  pub there : IsTextAt form (get_or disks part empty_disk).read place size other

-- why the trees don't agree, or weren't all compared
abbrev pub IsUnlike : Form → List State → List Content → List Content → PartFault → Type 0
IsUnlike form disks all trees (parts.Store fault) = ⊥
IsUnlike form disks all trees (parts.OtherTree stop part) = Differ form disks all trees stop part
IsUnlike form disks all trees (parts.Shelf fault) = IsSteady fault

-- A fault that says that a call of a disk failed comes only if one more did, of the disk of that part. The part that isn't added has the
-- next index, and `own` of its calls failed before, `own_after` after.
abbrev pub FailsOnly : List ℕ → List ℕ → ℕ → ℕ → PartFault → Type 0
FailsOnly before after own own_after (parts.Store fault) = fault ≡ Device → Grew own own_after
FailsOnly before after own own_after (parts.OtherTree stop part) = Unit {0}
FailsOnly before after own own_after (parts.Shelf fault) = OnlyFailing (before ++ own ∷ []) (after ++ own_after ∷ []) fault
