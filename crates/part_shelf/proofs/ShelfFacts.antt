-- What a shelf has.
use Rattle.std.proofs.Common.{◌≡◌, ◌<◌, ℕ, List, [], ◌∷◌, ◌++◌, All, Option, None, Some, get_or, map, replicate, refl, sym, ◌∙◌, ap, subst, arith, append-nil}
use Rattle.std.specs.List.{flat_map}
use Rattle.std.proofs.lemmas.List.{map-append}
use Rattle.std.proofs.lemmas.List.Concat.{flat_map-append}
use Rattle.std.proofs.lemmas.List.Elements.{All-nil, All-push, at_from_Contains}
use Rattle.std.proofs.lemmas.Slice.Zip.{all_zipped_more}
use Rattle.disk_model.specs.Disk.{State}
use Rattle.timetable.specs.Table.{Table, stops_of}
use Rattle.pattern_tree.specs.Content.{Content}
use Rattle.section_store.specs.Sections.{Form, IsSection, Stands, form_of}
use Rattle.merging.specs.Laws.{Agree}
use Rattle.merging.specs.Merging.{tree_of}
use Rattle.merging.proofs.Finding.{found_source}
use Rattle.part_shelf.specs.Comparing.{AgreeWith}
use Rattle.part_shelf.specs.Shelves.{HasTrees}
use Rattle.part_shelf.specs.Spots.{AreSpots, IsSpot}
use Rattle.part_shelf.specs.declared.entry.Spot.{Spot}
use Rattle.part_shelf.proofs.Apart.{agree_more}
use Rattle.part_shelf.proofs.SpotFacts.{no_spots, spot_tree}

none_agree : Agree []
none_agree = λ one other has had same. let k = at_from_Contains [] one has in let no : ⊥ = omega (arith, k.1) in absurd no

module _ {D : Type 0} (Honest : D → Type 0) (state : D → State) (form : Form) where
  -- a shelf without parts
  pub none_held : (disks : List D) (spots : List (Option Spot)) → disks ≡ [] → spots ≡ replicate (stops_of form.table) None → HasTrees Honest state form disks spots [] []
  none_held disks spots none are = record {
    honest = subst (All Honest) (sym none) (All-nil Honest);
    states_are = sym (ap (map state) none);
    lists = [];
    stand = tt;
    all_are = refl;
    agree = none_agree;
    are_spots = no_spots form spots are;
  }

  -- one whose disks were only read
  pub still_held : (disks others : List D) (spots : List (Option Spot)) (states : List State) (all : List Content) → (All Honest disks → All Honest others)
      → (All Honest disks → map state others ≡ map state disks) → HasTrees Honest state form disks spots states all → HasTrees Honest state form others spots states all
  still_held disks others spots states all honest same h = record {
    honest = honest h.honest;
    states_are = h.states_are ∙ sym (same h.honest);
    lists = h.lists;
    stand = h.stand;
    all_are = h.all_are;
    agree = h.agree;
    are_spots = h.are_spots;
  }

  -- one with one part more
  pub more_held : (disks : List D) (disk : D) (spots more : List (Option Spot)) (states : List State) (all trees : List Content) → HasTrees Honest state form disks spots states all
      → Honest disk → Stands form (state disk).read trees → AgreeWith all trees → AreSpots form (states ++ state disk ∷ []) more (all ++ trees)
      → HasTrees Honest state form (disks ++ disk ∷ []) more (states ++ state disk ∷ []) (all ++ trees)
  more_held disks disk spots more states all trees h honest stands with are = record {
    honest = All-push Honest disks disk h.honest honest;
    states_are = ap (λ (l : List State). l ++ state disk ∷ []) h.states_are ∙ sym (map-append state disks (disk ∷ []));
    lists = h.lists ++ trees ∷ [];
    stand = all_zipped_more (λ (s : State) (l : List Content). Stands form s.read l) states h.lists (state disk) trees h.stand stands;
    all_are = ap (λ (l : List Content). l ++ trees) h.all_are ∙ ap (λ (l : List Content). flat_map (λ (t : List Content). t) h.lists ++ l) (sym (append-nil trees))
        ∙ sym (flat_map-append (λ (t : List Content). t) h.lists (trees ∷ []));
    agree = agree_more form (state disk).read all trees h.agree stands with;
    are_spots = are;
  }

-- the tree of a stop that has a spot
pub record Spotted (form : Form) (states : List State) (spot : Spot) (all : List Content) (stop : ℕ) : Type 0 where
  pub tree : Content
  pub is : tree_of all stop ≡ Some tree
  pub source : tree.source ≡ stop
  pub there : IsSpot form states (Some spot) (Some tree)

pub spotted : (form : Form) (states : List State) (spots : List (Option Spot)) (all : List Content) (stop : ℕ) (spot : Spot) → AreSpots form states spots all
    → stop < stops_of form.table → get_or spots stop None ≡ Some spot → Spotted form states spot all stop
spotted form states spots all stop spot are below is =
    let found = spot_tree form states (get_or spots stop None) (tree_of all stop) spot is (are.each stop below) in
    record { tree = found.0; is = found.1; source = found_source all stop found.0 found.1; there = found.2 }

-- the tree that is read of its text
pub read_of : (table own : Table) (k : ℕ) (text other : List ℕ) (states : List State) (spot : Spot) (all : List Content) (stop : ℕ) (read : Content)
    → (it : Spotted (form_of table k) states spot all stop) → IsSection (form_of table k) text it.tree → other ≡ text → own ≡ table
    → ((tree : Content) → IsSection (form_of own k) other tree → tree.source ≡ stop → read ≡ tree) → Some read ≡ tree_of all stop
read_of table own k text other states spot all stop read it section text_is table_is told =
    let here : IsSection (form_of own k) other it.tree =
    subst (λ (t : Table). IsSection (form_of t k) other it.tree) (sym table_is) (subst (λ (l : List ℕ). IsSection (form_of table k) l it.tree) (sym text_is) section) in
    ap Some (told it.tree here it.source) ∙ sym it.is

pub not_changed : (table own : Table) (k : ℕ) (text other : List ℕ) (states : List State) (spot : Spot) (all : List Content) (stop : ℕ) (P : Type 0)
    → (it : Spotted (form_of table k) states spot all stop) → IsSection (form_of table k) text it.tree → other ≡ text → own ≡ table
    → ((tree : Content) → IsSection (form_of own k) other tree → tree.source ≡ stop → P) → P
not_changed table own k text other states spot all stop P it section text_is table_is told =
    told it.tree
    (subst (λ (t : Table). IsSection (form_of t k) other it.tree) (sym table_is) (subst (λ (l : List ℕ). IsSection (form_of table k) l it.tree) (sym text_is) section))
    it.source
