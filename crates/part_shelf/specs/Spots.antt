-- Where the trees of a store stand in its file. Only private clauses cite these words, but for the text of a tree at a place.
use Rattle.std.specs.Prelude.{◌≡◌, ◌<◌, ◌+◌, ◌^◌, ℕ, List, [], ◌∷◌, ◌++◌, Option, None, Some, take, drop, get_or, length, slice_index_or, slice_set, is_some, if◌then◌else◌}
use Rattle.std.specs.List.{All, AllZip}
use Rattle.disk_model.specs.Disk.{State, empty_disk}
use Rattle.timetable.specs.Table.{stops_of}
use Rattle.pattern_tree.specs.Content.{Content}
use Rattle.tree_codec.specs.Text.{TreeText}
use Rattle.section_store.specs.Lasting.{IsExact, IsTrusted}
use Rattle.section_store.specs.Sections.{Form, IsSection, Stands}
use Rattle.recovery.specs.Recovery.{IsLeftAlone}
use Rattle.merging.specs.Merging.{tree_of}
use Rattle.part_shelf.specs.declared.entry.Entry.{Entry}
use Rattle.part_shelf.specs.declared.entry.Spot.{Spot}
use Rattle.part_shelf.specs.declared.listing.Index.{Index}

-- from the place on the file has the text of the tree, `size` bytes
pub record IsTextAt (form : Form) (read : List ℕ) (place size : ℕ) (tree : Content) : Type 0 where
  pub section : IsSection form (take size (drop place read)) tree
  pub within : place + size < 2 ^ 64

-- the entry says where the tree stands
pub record IsEntry (form : Form) (read : List ℕ) (entry : Entry) (tree : Content) : Type 0 where
  pub source : entry.source ≡ tree.source
  pub there : IsTextAt form read entry.place entry.size tree

-- a tree is listed: its text comes after a gate and a length
pub record Lists (old : Index) (tree : Content) (new : Index) : Type 0 where
  pub text : List ℕ
  pub is_text : TreeText 4 1_000_000 text tree
  pub entry : Entry
  pub listed : new.entries.items ≡ old.entries.items ++ entry ∷ []
  pub source : entry.source ≡ tree.source
  pub place : entry.place ≡ old.next + 5
  pub size : entry.size ≡ length text
  pub next : new.next ≡ old.next + 5 + length text
  pub small : new.next < 2 ^ 64

-- the file stood for trees, and these entries say where each of them stands; nothing was done to the disk but at most a sync
pub record IsListing (form : Form) (old new : State) (entries : List Entry) : Type 0 where
  pub trees : List Content
  pub stands : Stands form old.read trees
  pub are : AllZip (IsEntry form old.read) entries trees
  pub alone : IsLeftAlone old new
  pub exact : IsTrusted form old → All (IsExact form) trees

-- the spot of a stop is that of this tree, in one of the files; none if there is no tree
abbrev pub IsSpot : Form → List State → Option Spot → Option Content → Type 0
IsSpot form disks None None = Unit {0}
IsSpot form disks None (Some tree) = ⊥
IsSpot form disks (Some spot) None = ⊥
IsSpot form disks (Some spot) (Some tree) =
    (spot.part < length disks) × IsTextAt form (get_or disks spot.part empty_disk).read spot.place spot.size tree

-- for each stop of the timetable the spot of the first tree of it
pub record AreSpots (form : Form) (disks : List State) (spots : List (Option Spot)) (all : List Content) : Type 0 where
  pub long : length spots ≡ stops_of form.table
  pub each : (stop : ℕ) → stop < stops_of form.table → IsSpot form disks (slice_index_or spots stop None) (tree_of all stop)

-- the spot put in for the stop, if it has none yet
abbrev pub with_first : List (Option Spot) → ℕ → Spot → List (Option Spot)
with_first spots stop spot = if is_some (slice_index_or spots stop None) then spots else slice_set spots stop (Some spot)
