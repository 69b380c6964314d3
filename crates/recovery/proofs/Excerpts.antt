-- The trees that a keeper is given, and those that are kept of a list.
use Rattle.std.proofs.Common.{◌≡◌, ◌<◌, ◌++◌, [], ◌∷◌, ℕ, List, All, length, refl, sym, ◌∙◌, ap, subst, append_assoc, append-nil}
use Rattle.std.proofs.lemmas.List.{map-append, length-map}
use Rattle.std.proofs.lemmas.List.Elements.{All-map, All-nil, All-push, All-weaker, filter-append}
use Rattle.timetable.specs.Table.{stops_of}
use Rattle.pattern_tree.specs.Content.{Content}
use Rattle.section_store.specs.Sections.{Form, MayStand, sources}
use Rattle.section_store.specs.Sources.{is_among}
use Rattle.recovery.specs.Keeping.{GivenAll}
use Rattle.recovery.specs.Reading.{IsRead, KeepsWanted, those}
use Rattle.recovery.specs.declared.kept.Kept.{Kept}
use Rattle.recovery.specs.declared.kept.Wanted.{Wanted}
use Rattle.recovery.specs.declared.kept.Wanted.TheVariants as wanted

-- one tree more is given
pub given_more : {K : Type 0} (Takes : K → Content → K → Type 0) (old mid new : K) (trees : List Content) (tree : Content)
    → GivenAll Takes old trees mid → Takes mid tree new → GivenAll Takes old (trees ++ tree ∷ []) new
given_more {K} Takes old mid new [] tree given taken = (new, subst (λ (x : K). Takes x tree new) given taken, refl)
given_more Takes old mid new (first ∷ trees) tree given taken = (given.0, given.1, given_more Takes given.0 mid new trees tree given.2 taken)

-- of each tree at the front of a list, and then of the others
those_first : (which : Wanted) (tree : Content) (trees : List Content) → those which (tree ∷ trees) ≡ those which (tree ∷ []) ++ those which trees
those_first wanted.All tree trees = refl
those_first (wanted.Of stops) tree trees = filter-append (λ (t : Content). is_among t.source stops.now) (tree ∷ []) trees

none_of : (which : Wanted) → those which [] ≡ []
none_of wanted.All = refl
none_of (wanted.Of stops) = refl

-- what is kept of trees that are given
pub kept_all : (old new : Kept) (trees : List Content) → GivenAll KeepsWanted old trees new → new.trees.items ≡ old.trees.items ++ those old.wanted trees
kept_all old new [] given =
    ap (λ (k : Kept). k.trees.items) given ∙ sym (append-nil old.trees.items) ∙ ap (λ (l : List Content). old.trees.items ++ l) (sym (none_of old.wanted))
kept_all old new (tree ∷ trees) given =
    let first = given.1 in
    kept_all given.0 new trees given.2
    ∙ ap (λ (which : Wanted). given.0.trees.items ++ those which trees) first.wanted
    ∙ ap (λ (l : List Content). l ++ those old.wanted trees) first.trees
    ∙ append_assoc old.trees.items (those old.wanted (tree ∷ [])) (those old.wanted trees)
    ∙ ap (λ (l : List Content). old.trees.items ++ l) (sym (those_first old.wanted tree trees))

-- nothing is read yet
pub read_nothing : {K : Type 0} (form : Form) (Takes : K → Content → K → Type 0) (old new : K) (Known : List Content → Type 0) → new ≡ old → Known []
    → IsRead form Takes old new [] Known
read_nothing form Takes old new Known same known =
    record { trees = []; given = same; stored_are = refl; stand = All-nil (MayStand form); known = known }

-- one tree more is read
pub read_more : {K : Type 0} (form : Form) (Takes : K → Content → K → Type 0) (old mid new : K) (stored stored' : List ℕ) (Known Known' : List Content → Type 0)
    (tree : Content) → (read : IsRead form Takes old mid stored Known) → Takes mid tree new → stored' ≡ stored ++ tree.source ∷ []
    → MayStand form tree → (Known read.trees → Known' (read.trees ++ tree ∷ [])) → IsRead form Takes old new stored' Known'
read_more form Takes old mid new stored stored' Known Known' tree read taken stored_is may known = record {
  trees = read.trees ++ tree ∷ [];
  given = given_more Takes old mid new read.trees tree read.given taken;
  stored_are = stored_is ∙ ap (λ (l : List ℕ). l ++ tree.source ∷ []) read.stored_are ∙ sym (map-append (λ (t : Content). t.source) read.trees (tree ∷ []));
  stand = All-push (MayStand form) read.trees tree read.stand may;
  known = known read.known;
}

-- of the same trees something else is known
pub read_knows : {K : Type 0} (form : Form) (Takes : K → Content → K → Type 0) (old new : K) (stored : List ℕ) (Known Known' : List Content → Type 0)
    → (read : IsRead form Takes old new stored Known) → Known' read.trees → IsRead form Takes old new stored Known'
read_knows form Takes old new stored Known Known' read known = record {
  trees = read.trees;
  given = read.given;
  stored_are = read.stored_are;
  stand = read.stand;
  known = known;
}

-- how many sources there are
pub counted_sources : (trees : List Content) (stored : List ℕ) → stored ≡ sources trees → length stored ≡ length trees
counted_sources trees stored is = ap (λ (l : List ℕ). length l) is ∙ length-map trees (λ (t : Content). t.source)

-- the stored sources are stops
pub sources_below : (stops : ℕ) (trees : List Content) (stored : List ℕ) → stored ≡ sources trees → All (λ (t : Content). t.source < stops) trees
    → All (λ s. s < stops) stored
sources_below stops trees stored is below =
    subst (All (λ s. s < stops)) (sym is) (All-map (λ s. s < stops) (λ (t : Content). t.source) trees below)

-- those that may stand have stops as sources
pub stops_below : (form : Form) (trees : List Content) → All (MayStand form) trees → All (λ (t : Content). t.source < stops_of form.table) trees
stops_below form trees stand = All-weaker (MayStand form) (λ (t : Content). t.source < stops_of form.table) (λ t may. may.within.0) trees stand
