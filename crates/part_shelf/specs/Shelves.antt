-- What a shelf of parts has.
use Rattle.std.specs.Prelude.{◌≡◌, ◌⊎◌, ℕ, List, ◌++◌, Option, map}
use Rattle.std.specs.Arc.{arc_value}
use Rattle.std.specs.List.{All, AllZip, flat_map}
use Rattle.disk_model.specs.Disk.{State}
use Rattle.pattern_tree.specs.Content.{Content}
use Rattle.section_store.specs.Lasting.{IsExact, IsTrusted}
use Rattle.section_store.specs.Sections.{Form, Stands, form_of}
use Rattle.recovery.specs.Recovery.{CauseOf, IsLeftAlone, IsOutside, StandsForNoList}
use Rattle.merging.specs.Laws.{Agree}
use Rattle.merging.specs.Reads.{IsSteady}
use Rattle.part_shelf.specs.Comparing.{Differ}
use Rattle.part_shelf.specs.Spots.{AreSpots}
use Rattle.part_shelf.specs.declared.entry.Spot.{Spot}
use Rattle.part_shelf.specs.declared.fault.PartFault.{PartFault}
use Rattle.part_shelf.specs.declared.fault.PartFault.TheVariants as parts
use Rattle.part_shelf.specs.declared.shelf.PartShelf.{PartShelf}

-- Honest disks, in these states, which stand for lists of trees, one after the other all of these; no two of one stop differ. Each tree is
-- found where its spot says.
pub record HasTrees {D : Type 0} (Honest : D → Type 0) (state : D → State) (form : Form) (disks : List D) (spots : List (Option Spot))
    (states : List State) (all : List Content) : Type 0 where
  pub honest : All Honest disks
  pub states_are : states ≡ map state disks
  pub lists : List (List Content)
  pub stand : AllZip (λ s trees. Stands form s.read trees) states lists
  pub all_are : all ≡ flat_map (λ trees. trees) lists
  pub agree : Agree all
  pub are_spots : AreSpots form states spots all

-- what the trees of a shelf are for
abbrev pub form_for : {D : Type 0} → PartShelf D → Form
form_for shelf = form_of (arc_value shelf.table) shelf.rides

-- the shelf has these trees, on disks in these states
abbrev pub Has : {D : Type 0} → (D → Type 0) → (D → State) → PartShelf D → List State → List Content → Type 0
Has Honest state shelf states all = HasTrees Honest state (form_for shelf) shelf.disks.items shelf.spots.items states all

-- The disk stood for trees, which the shelf has now after all that it had. Nothing was done to the disk but at most a sync. Of a trusted
-- disk each of the trees is exact.
pub record IsAdded (form : Form) (old : State) (all : List Content) (Has : State → List Content → Type 0) : Type 0 where
  pub trees : List Content
  pub now : State
  pub stands : Stands form old.read trees
  pub alone : IsLeftAlone old now
  pub exact : IsTrusted form old → All (IsExact form) trees
  pub has : Has now (all ++ trees)

-- the part stands for trees of which one isn't the one that all have of the stop, which the part of that index has
pub record IsOtherTree (form : Form) (read : List ℕ) (disks : List State) (all : List Content) (stop part : ℕ) : Type 0 where
  pub trees : List Content
  pub stands : Stands form read trees
  pub differ : Differ form disks all trees stop part

-- why a part isn't added: its bytes, the device or memory; or a tree of it; or else a read, or memory
abbrev pub WhyNot : Form → List ℕ → List State → List Content → PartFault → Type 0
WhyNot form read disks all (parts.Store fault) = CauseOf form read fault × (IsOutside fault ⊎ StandsForNoList form read)
WhyNot form read disks all (parts.OtherTree stop part) = IsOtherTree form read disks all stop part
WhyNot form read disks all (parts.Shelf fault) = IsSteady fault
