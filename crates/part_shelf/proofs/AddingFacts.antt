-- A part that is added, and one that isn't.
use Rattle.std.proofs.Common.{◌≡◌, inl, inr, ℕ, List, length, map, sym, ◌∙◌, ap, subst}
use Rattle.std.specs.List.{AllZip}
use Rattle.std.proofs.lemmas.List.{length-map}
use Rattle.disk_model.specs.Disk.{State}
use Rattle.pattern_tree.specs.Content.{Content}
use Rattle.section_store.specs.Sections.{Form, Stands}
use Rattle.recovery.specs.Recovery.{IsLeftAlone}
use Rattle.part_shelf.specs.Comparing.{IsUnlike}
use Rattle.part_shelf.specs.Shelves.{WhyNot}
use Rattle.part_shelf.specs.Spots.{IsEntry}
use Rattle.part_shelf.specs.declared.entry.Entry.{Entry}
use Rattle.part_shelf.specs.declared.fault.PartFault.{PartFault}
use Rattle.part_shelf.specs.declared.fault.PartFault.TheVariants as parts

-- a file that was left alone reads as before
pub read_alone : (old new : State) → IsLeftAlone old new → new.read ≡ old.read
read_alone old new (inl same) = ap (λ (s : State). s.read) same
read_alone old new (inr synced) = ap (λ (s : State). s.read) synced

pub entries_still : (form : Form) (old new : State) (entries given : List Entry) (trees : List Content) → IsLeftAlone old new → given ≡ entries
    → AllZip (IsEntry form old.read) entries trees → AllZip (IsEntry form new.read) given trees
entries_still form old new entries given trees alone same each =
    subst (λ (l : List Entry). AllZip (IsEntry form new.read) l trees) (sym same)
    (subst (λ (r : List ℕ). AllZip (IsEntry form r) entries trees) (sym (read_alone old new alone)) each)

-- why trees that don't agree aren't added
pub unlike_why : (form : Form) (read : List ℕ) (disks : List State) (all trees : List Content) → Stands form read trees → (fault : PartFault) → IsUnlike form disks all trees fault
    → WhyNot form read disks all fault
unlike_why form read disks all trees stands (parts.Store fault) unlike = absurd unlike
unlike_why form read disks all trees stands (parts.OtherTree stop part) unlike = record { trees = trees; stands = stands; differ = unlike }
unlike_why form read disks all trees stands (parts.Shelf fault) unlike = unlike

-- there are as many states as disks
pub counted_disks : {D : Type 0} (state : D → State) (disks : List D) (states : List State) → states ≡ map state disks → length disks ≡ length states
counted_disks state disks states are = sym (ap length are ∙ length-map disks state)
