-- Trees that are compared one by one.
use Rattle.std.proofs.Common.{◌≡◌, ◌≢◌, ℕ, ◌+◌, ◌<◌, List, [], ◌∷◌, All, Option, None, Some, length, take, get_or, refl, sym, ◌∙◌, ap, subst, arith}
use Rattle.std.specs.List.{AllZip, Contains}
use Rattle.std.proofs.lemmas.List.{get_or_default, take_more}
use Rattle.std.proofs.lemmas.List.Elements.{All-append, All-cons, All-nil}
use Rattle.disk_model.specs.Disk.{Grew, State}
use Rattle.timetable.specs.Table.{stops_of}
use Rattle.pattern_tree.specs.Content.{Content}
use Rattle.section_store.specs.Sections.{Form}
use Rattle.merging.specs.Merging.{tree_of}
use Rattle.merging.proofs.Finding.{found_in, found_source}
use Rattle.merging.specs.Reads.{IsSteady, OnlyFailing}
use Rattle.part_shelf.specs.Comparing.{AgreeWith, Differ, FailsOnly, IsUnlike}
use Rattle.part_shelf.specs.Reading.{of_text}
use Rattle.part_shelf.specs.Spots.{AreSpots, IsEntry, IsSpot}
use Rattle.part_shelf.specs.declared.entry.Entry.{Entry}
use Rattle.part_shelf.specs.declared.entry.Spot.{Spot}
use Rattle.part_shelf.specs.declared.fault.PartFault.{PartFault}
use Rattle.part_shelf.specs.declared.fault.PartFault.TheVariants as parts
use Rattle.part_shelf.specs.declared.fault.TextFault.{TextFault}
use Rattle.part_shelf.specs.declared.fault.TextFault.TheVariants as texts
use Rattle.part_shelf.proofs.ShelfFacts.{spotted}
use Rattle.part_shelf.proofs.SpotFacts.{zip_long}

-- the tree that another part has of an entry's stop
pub record Compared (form : Form) (states : List State) (all : List Content) (tree : Content) (spot : Spot) : Type 0 where
  pub other : Content
  pub is : tree_of all tree.source ≡ Some other
  pub there : IsSpot form states (Some spot) (Some other)

pub compared : (form : Form) (states : List State) (spots : List (Option Spot)) (all : List Content) (read : List ℕ) (entry : Entry) (tree : Content) (spot : Spot)
    → AreSpots form states spots all → IsEntry form read entry tree → get_or spots entry.source None ≡ Some spot → Compared form states all tree spot
compared form states spots all read entry tree spot are own there =
    let below : entry.source < stops_of form.table = subst (λ (n : ℕ). n < stops_of form.table) (sym own.source) own.there.section.is_text.source_below in
    let it = spotted form states spots all entry.source spot are below there in
    record { other = it.tree; is = ap (tree_of all) (sym own.source) ∙ it.is; there = it.there }

abbrev Agrees : List Content → Content → Type 0
Agrees all tree = (other : Content) → tree_of all tree.source ≡ Some other → tree ≡ other

some_same : (x y : Content) → Some x ≡ Some y → x ≡ y
some_same x y same = cc

pub one_agrees : (all : List Content) (tree other : Content) → tree_of all tree.source ≡ Some other → tree ≡ other → AgreeWith all (tree ∷ [])
one_agrees all tree other is same =
    All-cons (Agrees all) tree [] (λ also found. same ∙ some_same other also (sym is ∙ found)) (All-nil (Agrees all))

pub differs : (form : Form) (disks : List State) (all : List Content) (tree other : Content) (stop : ℕ) (spot : Spot) → IsSpot form disks (Some spot) (Some other)
    → tree_of all tree.source ≡ Some other → tree.source ≡ stop → tree ≢ other → Differ form disks all (tree ∷ []) stop spot.part
differs form disks all tree other stop spot there is source apart = record {
  tree = tree;
  one = (0, omega arith, refl);
  other = other;
  before = found_in all tree.source other is;
  source = source;
  same = found_source all tree.source other is ∙ source;
  differs = apart;
  within = there.0;
  place = spot.place;
  size = spot.size;
  there = there.1;
}

only : (x a : Content) → Contains (x ∷ []) a → a ≡ x
only x a (k, below, is) = let zero' : k ≡ 0 = omega (arith, below) in sym (subst (λ (i : ℕ). get_or (x ∷ []) i a ≡ a) zero' is)

-- one tree more agrees, or is one of all that don't
pub more_agree : (form : Form) (read : List ℕ) (entries : List Entry) (all trees : List Content) (i : ℕ) (d : Content) → AllZip (IsEntry form read) entries trees → i < length entries
    → AgreeWith all (take i trees) → AgreeWith all (get_or trees i d ∷ []) → AgreeWith all (take (i + 1) trees)
more_agree form read entries all trees i d each below so_far here =
    let long = zip_long (IsEntry form read) entries trees each in
    subst (All (Agrees all)) (sym (take_more trees i d (omega (arith, below, long)))) (All-append (Agrees all) (take i trees) (get_or trees i d ∷ []) so_far here)

pub one_of : (form : Form) (disks : List State) (all trees : List Content) (i : ℕ) (d : Content) (fault : PartFault) → i < length trees
    → IsUnlike form disks all (get_or trees i d ∷ []) fault → IsUnlike form disks all trees fault
one_of form disks all trees i d (parts.Store fault) below unlike = unlike
one_of form disks all trees i d (parts.OtherTree stop part) below unlike = record {
  tree = unlike.tree;
  one = (i, below, get_or_default trees i unlike.tree d below ∙ sym (only (get_or trees i d) unlike.tree unlike.one));
  other = unlike.other;
  before = unlike.before;
  source = unlike.source;
  same = unlike.same;
  differs = unlike.differs;
  within = unlike.within;
  place = unlike.place;
  size = unlike.size;
  there = unlike.there;
}
one_of form disks all trees i d (parts.Shelf fault) below unlike = unlike

-- what failed since then failed since before
pub fails_since : (before then after : List ℕ) (other also own : ℕ) (fault : PartFault) → then ≡ before → also ≡ other → FailsOnly then after also own fault
    → FailsOnly before after other own fault
fails_since before then after other also own fault same same' fails =
    subst (λ (n : ℕ). FailsOnly before after n own fault) same' (subst (λ (l : List ℕ). FailsOnly l after also own fault) same fails)

-- the fault of a text, if it is a part's
pub text_steady : (part : ℕ) (fault : TextFault) → fault ≢ texts.Changed → IsSteady (of_text part fault)
text_steady part texts.Device isnt = tt
text_steady part texts.Memory isnt = tt
text_steady part texts.Changed isnt = isnt refl

pub text_fails : (before after : List ℕ) (part : ℕ) (fault : TextFault) → (fault ≡ texts.Device → Grew (get_or before part 0) (get_or after part 0))
    → OnlyFailing before after (of_text part fault)
text_fails before after part texts.Device grew = grew refl
text_fails before after part texts.Memory grew = tt
text_fails before after part texts.Changed grew = tt
