-- What a board shows that was opened with the trees of a list.
use Rattle.std.proofs.Common.{◌≡◌, ◌<◌, ℕ, List, [], ◌∷◌, ◌++◌, All, append_assoc, append-nil, refl, sym, ◌∙◌, ap, subst}
use Rattle.std.specs.List.{AllZip, Contains}
use Rattle.std.proofs.lemmas.List.Elements.{AllZip-push, All-nil, All-cons, All-head, All-tail, All-contains_itself}
use Rattle.pattern_tree.specs.Content.{Content}
use Rattle.section_store.specs.Lasting.{IsExact}
use Rattle.section_store.specs.Sections.{Form, sources}
use Rattle.board.specs.Trees.{IsSameTree}
use Rattle.board.proofs.RightFacts.{same_right}
use Rattle.recovery.specs.Keeping.{GivenAll}
use Rattle.planner.specs.Desk.{ShowsStored}
use Rattle.planner.specs.Sharing.{SharesTree}
use Rattle.planner.specs.declared.sharing.Sharing.{Sharing}

-- the same trees have the same sources
pub same_sources : (trees others : List Content) → AllZip IsSameTree trees others → sources others ≡ sources trees
same_sources [] [] same = refl
same_sources [] (other ∷ others) same = absurd same
same_sources (tree ∷ trees) [] same = absurd same
same_sources (tree ∷ trees) (other ∷ others) same =
    ap (λ (s : ℕ). s ∷ sources others) same.0.source ∙ ap (λ (l : List ℕ). tree.source ∷ l) (same_sources trees others same.1)

-- what was made of trees that were given one by one
shared_all : (old new : Sharing) (trees more : List Content) → AllZip IsSameTree more old.trees.items → GivenAll SharesTree old trees new
    → AllZip IsSameTree (more ++ trees) new.trees.items
shared_all old new [] more same given =
    subst (λ (l : List Content). AllZip IsSameTree l new.trees.items) (sym (append-nil more))
    (subst (λ (k : Sharing). AllZip IsSameTree more k.trees.items) (sym given) same)
shared_all old new (tree ∷ trees) more same given =
    let first = given.1 in
    subst (λ (l : List Content). AllZip IsSameTree l new.trees.items) (append_assoc more (tree ∷ []) trees)
    (shared_all given.0 new trees (more ++ tree ∷ [])
    (subst (AllZip IsSameTree (more ++ tree ∷ [])) (sym first.trees) (AllZip-push IsSameTree more old.trees.items tree first.shared same first.same)) given.2)

-- a board that was opened with them shows the same trees
pub shared_from : (old new : Sharing) (trees list : List Content) → old.trees.items ≡ [] → GivenAll SharesTree old trees new → list ≡ new.trees.items
    → AllZip IsSameTree trees list
shared_from old new trees list bare given are =
    subst (AllZip IsSameTree trees) (sym are) (shared_all old new trees [] (subst (AllZip IsSameTree []) (sym bare) tt) given)

-- all that is shown is stored
pub shows_stored : (stored : List ℕ) (trees others : List Content) → stored ≡ sources trees → AllZip IsSameTree trees others → ShowsStored stored others
shows_stored stored trees others are same =
    subst (All (Contains stored)) (are ∙ sym (same_sources trees others same)) (All-contains_itself stored)

-- if nothing is shown
pub none_shown : (stored : List ℕ) (list : List Content) → list ≡ [] → ShowsStored stored list
none_shown stored list bare = subst (ShowsStored stored) (sym bare) (All-nil (Contains stored))

pub sources_known : (stops : ℕ) (trees : List Content) → All (λ (tree : Content). tree.source < stops) trees → All (λ s. s < stops) (sources trees)
sources_known stops [] all = All-nil (λ s. s < stops)
sources_known stops (tree ∷ trees) all =
    All-cons (λ s. s < stops) tree.source (sources trees) (All-head (λ (t : Content). t.source < stops) tree trees all)
    (sources_known stops trees (All-tail (λ (t : Content). t.source < stops) tree trees all))

-- of exact trees those that are shown are exact
pub shown_right : (form : Form) (trees others : List Content) → AllZip IsSameTree trees others → All (IsExact form) trees → All (IsExact form) others
shown_right form [] [] same right = right
shown_right form [] (other ∷ others) same right = absurd same
shown_right form (tree ∷ trees) [] same right = absurd same
shown_right form (tree ∷ trees) (other ∷ others) same right =
    All-cons (IsExact form) other others (same_right form tree other same.0 (All-head (IsExact form) tree trees right))
    (shown_right form trees others same.1 (All-tail (IsExact form) tree trees right))
