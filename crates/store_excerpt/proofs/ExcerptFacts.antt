-- What an excerpt says of the stops whose trees are kept.
use Rattle.std.proofs.Common.{◌≡◌, ◌<◌, Bor, true, nat_eq, ℕ, List, [], ◌∷◌, Option, None, Some, All, IfSome, length, arith, refl, sym, ◌∙◌, subst, inl, inr}
use Rattle.std.specs.Option.{option_copied}
use Rattle.std.specs.List.{Contains, list_any}
use Rattle.std.proofs.lemmas.Bool.{cases_eq, cases_lt}
use Rattle.std.proofs.lemmas.Bool.Decides.{nat_tests}
use Rattle.std.proofs.lemmas.List.{get_or_past}
use Rattle.std.proofs.lemmas.List.Elements.{All-contains, All-contains_itself, All-filter}
use Rattle.std.proofs.lemmas.Map.Views.{any-filter_same}
use Rattle.pattern_tree.specs.Content.{Content}
use Rattle.section_store.specs.Sections.{Form, sources}
use Rattle.section_store.specs.Sources.{is_among}
use Rattle.recovery.specs.Excerpts.{trees_of}
use Rattle.pattern_query.specs.Questions.{tree_at}
use Rattle.store_excerpt.specs.Board.{AreOf, AreOwn, IsBoardOf, IsSlotOf, IsWholeAmong, ShowsAmong}
use Rattle.store_excerpt.proofs.BoardFacts.{among_is, none_some, slot_held, slot_missing}

-- the sources of trees, looked at one by one
among_sources : (s : ℕ) (trees : List Content) → is_among s (sources trees) ≡ list_any (λ (t : Content). nat_eq t.source s) trees
among_sources s [] = refl
among_sources s (tree ∷ trees) = let rest = among_sources s trees in grind (arith, nat_tests)

own_passes : (s n : ℕ) (froms : List ℕ) → Contains froms s → nat_eq n s ≡ true → is_among n froms ≡ true
own_passes s n froms has is = elim (cases_eq n s) [
  | inl same ↦ subst (λ (m : ℕ). is_among m froms ≡ true) (sym same) (among_is s froms has)
  | inr other ↦ absurd (let no : ⊥ = grind (arith, nat_tests) in no)
]

-- of the trees of some stops each such stop is a source if it was one of all
kept_among : (s : ℕ) (froms : List ℕ) (trees : List Content) → Contains froms s → is_among s (sources (trees_of froms trees)) ≡ is_among s (sources trees)
kept_among s froms trees has =
    among_sources s (trees_of froms trees)
    ∙ any-filter_same (λ (t : Content). nat_eq t.source s) (λ (t : Content). is_among t.source froms) true
    (λ (t : Content) (is : nat_eq t.source s ≡ true). own_passes s t.source froms has is) trees
    ∙ sym (among_sources s trees)

-- the board of the kept trees shows what is stored of these stops
pub shows_among : (stops : ℕ) (froms : List ℕ) (trees : List Content) (board : List (Option Content)) → IsBoardOf stops (sources (trees_of froms trees)) board
    → ShowsAmong stops froms (sources trees) board
shows_among stops froms trees board is = record {
  held = λ s below has. slot_held (sources trees) s (tree_at board s) (slot s below has);
  missing = λ s below has. slot_missing (sources trees) s (tree_at board s) (slot s below has);
} where
  slot : (s : ℕ) → s < stops → Contains froms s → IsSlotOf (sources trees) s (tree_at board s)
  slot s below has = record { there = (is s below).there ∙ kept_among s froms trees has; own = (is s below).own }

-- those that are kept are whole if all are
pub kept_whole : (form : Form) (among froms : List ℕ) (trees : List Content) → All (IsWholeAmong form among) trees
    → All (IsWholeAmong form among) (trees_of froms trees)
kept_whole form among froms trees all = All-filter (λ (t : Content). is_among t.source froms) (IsWholeAmong form among) trees all

-- those that are kept are among all
pub kept_of : (froms : List ℕ) (trees : List Content) (board : List (Option Content)) → AreOf (trees_of froms trees) board → AreOf trees board
kept_of froms trees board are s tree at =
    let h = are s tree at in
    let kept = All-filter (λ (t : Content). is_among t.source froms) (Contains trees) trees (All-contains_itself trees) in
    record { one = h.one; among = All-contains (Contains trees) (trees_of froms trees) h.one kept h.among; source = h.source; pairs = h.pairs }

-- a board of trees has each in its own slot
pub board_own : (stops : ℕ) (list : List ℕ) (board : List (Option Content)) → length board ≡ stops → IsBoardOf stops list board → AreOwn board
board_own stops list board long is s tree at = elim (cases_lt s stops) [
  | inl below ↦ (is s below).own tree at
  | inr past ↦ absurd (none_some tree (sym (get_or_past board s None (omega (arith, past, long))) ∙ at))
]

pub found_own : (board : List (Option Content)) (s : ℕ) (found : Option (Bor Content)) → AreOwn board → option_copied found ≡ tree_at board s
    → IfSome found (λ tree. tree.now.source ≡ s)
found_own board s None own at = tt
found_own board s (Some tree) own at = own s tree.now (sym at)
