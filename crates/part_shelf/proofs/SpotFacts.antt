-- Spots of trees, with one more.
use Rattle.std.proofs.Common.{◌≡◌, ◌≢◌, ◌==◌, ℕ, zero, suc, ◌+◌, ◌<◌, Bool, true, false, cond, List, [], ◌∷◌, ◌++◌, Option, None, Some, is_some, length, take, get_or, set, replicate, refl, sym, ◌∙◌, ap, subst, arith, append_assoc, append-nil, length-append}
use Rattle.std.specs.List.{AllZip}
use Rattle.std.specs.Option.{option_or}
use Rattle.std.proofs.Math.ListN.{get_or-append}
use Rattle.std.proofs.Math.Seq.{get_or-append_seam}
use Rattle.std.proofs.lemmas.Bool.{eqb-true}
use Rattle.std.proofs.lemmas.List.{get_or-replicate, get_or-set_other, get_or-set_same, length-replicate, length-set, take_more}
use Rattle.std.proofs.lemmas.List.Folds.{find-append}
use Rattle.disk_model.specs.Disk.{State, empty_disk}
use Rattle.timetable.specs.Table.{stops_of}
use Rattle.pattern_tree.specs.Content.{Content}
use Rattle.section_store.specs.Sections.{Form}
use Rattle.merging.specs.Merging.{tree_of}
use Rattle.part_shelf.specs.Spots.{AreSpots, IsEntry, IsSpot, IsTextAt, with_first}
use Rattle.part_shelf.specs.declared.entry.Entry.{Entry}
use Rattle.part_shelf.specs.declared.entry.Spot.{Spot}

-- what holds of two lists holds of their items
pub zip_at : {A B : Type 0} (R : A → B → Type 0) (xs : List A) (ys : List B) → AllZip R xs ys → (i : ℕ) (d : A) (e : B) → i < length xs → R (get_or xs i d) (get_or ys i e)
zip_at R [] ys each i d e below = absurd (let no : ⊥ = omega (arith, below) in no)
zip_at R (x ∷ xs) [] each i d e below = absurd each
zip_at R (x ∷ xs) (y ∷ ys) each zero d e below = each.0
zip_at R (x ∷ xs) (y ∷ ys) each (suc i) d e below = zip_at R xs ys each.1 i d e (omega (arith, below))

pub zip_long : {A B : Type 0} (R : A → B → Type 0) (xs : List A) (ys : List B) → AllZip R xs ys → length xs ≡ length ys
zip_long R [] [] each = refl
zip_long R [] (y ∷ ys) each = absurd each
zip_long R (x ∷ xs) [] each = absurd each
zip_long R (x ∷ xs) (y ∷ ys) each = ap suc (zip_long R xs ys each.1)

-- a spot put in for a stop that has none
set_there : (spots : List (Option Spot)) (source stop : ℕ) (spot : Spot) (o : Option Spot) → get_or spots stop None ≡ o → source ≡ stop → stop < length spots
    → get_or (with_first spots source spot) stop None ≡ option_or o (Some spot)
set_there spots source stop spot None is same below =
    ap (λ (s : ℕ). get_or (with_first spots s spot) stop None) same
    ∙ ap (λ (x : Option Spot). get_or (cond (is_some x) spots (set spots stop (Some spot))) stop None) is
    ∙ get_or-set_same spots stop (Some spot) None below
set_there spots source stop spot (Some there) is same below =
    ap (λ (s : ℕ). get_or (with_first spots s spot) stop None) same
    ∙ ap (λ (x : Option Spot). get_or (cond (is_some x) spots (set spots stop (Some spot))) stop None) is
    ∙ is

set_other : (spots : List (Option Spot)) (source stop : ℕ) (spot : Spot) → stop ≢ source → get_or (with_first spots source spot) stop None ≡ get_or spots stop None
set_other spots source stop spot other = by (is_some (get_or spots source None)) where
  by : (b : Bool) → get_or (cond b spots (set spots source (Some spot))) stop None ≡ get_or spots stop None
  by true = refl
  by false = get_or-set_other spots source stop (Some spot) None other

pub with_first-long : (spots : List (Option Spot)) (source : ℕ) (spot : Spot) → length (with_first spots source spot) ≡ length spots
with_first-long spots source spot = by (is_some (get_or spots source None)) where
  by : (b : Bool) → length (cond b spots (set spots source (Some spot))) ≡ length spots
  by true = refl
  by false = length-set spots source (Some spot)

module _ (form : Form) (disks : List State) where
  -- the files of one disk more
  spot_more : (now : State) (o : Option Spot) (t : Option Content) → IsSpot form disks o t → IsSpot form (disks ++ now ∷ []) o t
  spot_more now None None is = tt
  spot_more now None (Some t) is = is
  spot_more now (Some s) None is = is
  spot_more now (Some s) (Some t) is = (
    omega (arith, is.0, length-append disks (now ∷ [])),
    subst (λ (d : State). IsTextAt form d.read s.place s.size t) (sym (get_or-append disks (now ∷ []) empty_disk s.part is.0)) is.1,
  )

  pub more_disks : (now : State) (spots : List (Option Spot)) (all : List Content) → AreSpots form disks spots all → AreSpots form (disks ++ now ∷ []) spots all
  more_disks now spots all are = record {
    long = are.long;
    each = λ stop below. spot_more now (get_or spots stop None) (tree_of all stop) (are.each stop below);
  }

  -- one tree more, of the same stop and of another
  spot_both : (o : Option Spot) (t : Option Content) (spot : Spot) (tree : Content) → IsSpot form disks (Some spot) (Some tree) → IsSpot form disks o t
      → IsSpot form disks (option_or o (Some spot)) (option_or t (Some tree))
  spot_both None None spot tree new is = new
  spot_both None (Some t) spot tree new is = absurd is
  spot_both (Some s) None spot tree new is = absurd is
  spot_both (Some s) (Some t) spot tree new is = is

  no_more : (t : Option Content) → option_or t None ≡ t
  no_more None = refl
  no_more (Some t) = refl

  pub more_tree : (spots : List (Option Spot)) (all : List Content) (tree : Content) (spot : Spot) → IsSpot form disks (Some spot) (Some tree) → AreSpots form disks spots all
      → AreSpots form disks (with_first spots tree.source spot) (all ++ tree ∷ [])
  more_tree spots all tree spot new are = record { long = with_first-long spots tree.source spot ∙ are.long; each = at } where
    joined : (stop : ℕ) (b : Bool) → (tree.source == stop) ≡ b → tree_of (all ++ tree ∷ []) stop ≡ option_or (tree_of all stop) (cond b (Some tree) None)
    joined stop b is =
        find-append (λ (t : Content). t.source == stop) all (tree ∷ [])
        ∙ ap (λ (c : Bool). option_or (tree_of all stop) (cond c (Some tree) None)) is

    by : (stop : ℕ) → stop < stops_of form.table → (b : Bool) → (tree.source == stop) ≡ b
        → IsSpot form disks (get_or (with_first spots tree.source spot) stop None) (tree_of (all ++ tree ∷ []) stop)
    by stop below true is =
        let same : tree.source ≡ stop = eqb-true tree.source stop is in
        let there = set_there spots tree.source stop spot (get_or spots stop None) refl same (omega (arith, below, are.long)) in
        subst (λ (o : Option Spot). IsSpot form disks o (tree_of (all ++ tree ∷ []) stop)) (sym there)
        (subst (λ (t : Option Content). IsSpot form disks (option_or (get_or spots stop None) (Some spot)) t) (sym (joined stop true is))
        (spot_both (get_or spots stop None) (tree_of all stop) spot tree new (are.each stop below)))
    by stop below false is =
        let other : stop ≢ tree.source = λ same. let no : true ≡ false = sym (reflexive tree.source stop same) ∙ is in absurd cc in
        let there = set_other spots tree.source stop spot other in
        subst (λ (o : Option Spot). IsSpot form disks o (tree_of (all ++ tree ∷ []) stop)) (sym there)
        (subst (λ (t : Option Content). IsSpot form disks (get_or spots stop None) t) (sym (joined stop false is ∙ no_more (tree_of all stop)))
        (are.each stop below)) where
          reflexive : (a b : ℕ) → b ≡ a → (a == b) ≡ true
          reflexive a b same = grind (arith, same)

    at : (stop : ℕ) → stop < stops_of form.table → IsSpot form disks (get_or (with_first spots tree.source spot) stop None) (tree_of (all ++ tree ∷ []) stop)
    at stop below = by stop below (tree.source == stop) refl

-- no tree more
pub none_noted : (form : Form) (disks : List State) (now : State) (spots : List (Option Spot)) (all trees : List Content) → AreSpots form disks spots all
    → AreSpots form (disks ++ now ∷ []) spots (all ++ take 0 trees)
none_noted form disks now spots all trees are =
    subst (λ (l : List Content). AreSpots form (disks ++ now ∷ []) spots l) (sym (append-nil all)) (more_disks form disks now spots all are)

-- one entry more is noted
pub noted_more : (form : Form) (disks : List State) (now : State) (spots : List (Option Spot)) (all trees : List Content) (entries : List Entry) (i : ℕ) (entry : Entry)
    (part : ℕ) (spot : Spot) → part ≡ length disks → AllZip (IsEntry form now.read) entries trees → i < length entries → entry ≡ get_or entries i entry
    → spot.part ≡ part → spot.place ≡ entry.place → spot.size ≡ entry.size → AreSpots form (disks ++ now ∷ []) spots (all ++ take i trees)
    → AreSpots form (disks ++ now ∷ []) (with_first spots entry.source spot) (all ++ take (i + 1) trees)
noted_more form disks now spots all trees entries i entry part spot part_is each below entry_is part' place' size' are =
    let long = zip_long (IsEntry form now.read) entries trees each in
    let blank : Content = record { source = 0; pairs = [] } in
    let tree = get_or trees i blank in
    let own : IsEntry form now.read entry tree =
    subst (λ (e : Entry). IsEntry form now.read e tree) (sym entry_is) (zip_at (IsEntry form now.read) entries trees each i entry blank below) in
    let files = disks ++ now ∷ [] in
    let file : get_or files spot.part empty_disk ≡ now = ap (λ (k : ℕ). get_or files k empty_disk) (part' ∙ part_is) ∙ get_or-append_seam disks now [] empty_disk in
    let text : IsTextAt form now.read spot.place spot.size tree =
    subst (λ (k : ℕ). IsTextAt form now.read k spot.size tree) (sym place') (subst (λ (k : ℕ). IsTextAt form now.read entry.place k tree) (sym size') own.there) in
    let new : IsSpot form files (Some spot) (Some tree) = (
      omega (arith, part', part_is, length-append disks (now ∷ [])),
      subst (λ (d : State). IsTextAt form d.read spot.place spot.size tree) (sym file) text,
    ) in
    let more : (all ++ take i trees) ++ tree ∷ [] ≡ all ++ take (i + 1) trees =
    append_assoc all (take i trees) (tree ∷ []) ∙ ap (λ (l : List Content). all ++ l) (sym (take_more trees i blank (omega (arith, below, long)))) in
    subst (λ (l : List Content). AreSpots form files (with_first spots entry.source spot) l) more
    (subst (λ (s : ℕ). AreSpots form files (with_first spots s spot) ((all ++ take i trees) ++ tree ∷ [])) (sym own.source)
    (more_tree form files spots (all ++ take i trees) tree spot new are))

-- the tree for which a spot stands
pub spot_tree : (form : Form) (disks : List State) (o : Option Spot) (t : Option Content) (spot : Spot) → o ≡ Some spot → IsSpot form disks o t
    → (tree : Content) × (t ≡ Some tree) × IsSpot form disks (Some spot) (Some tree)
spot_tree form disks o None spot is held = absurd (subst (λ (x : Option Spot). IsSpot form disks x None) is held)
spot_tree form disks o (Some tree) spot is held = (tree, refl, subst (λ (x : Option Spot). IsSpot form disks x (Some tree)) is held)

-- no spots
pub no_spots : (form : Form) (spots : List (Option Spot)) → spots ≡ replicate (stops_of form.table) None → AreSpots form [] spots []
no_spots form spots are = record {
  long = ap length are ∙ length-replicate (stops_of form.table) None;
  each = λ stop below.
      subst (λ (o : Option Spot). IsSpot form [] o None)
      (sym (ap (λ (l : List (Option Spot)). get_or l stop None) are ∙ get_or-replicate (stops_of form.table) stop None None below)) tt;
}
