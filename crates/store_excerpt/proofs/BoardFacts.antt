-- What stands on a board once one tree more is shown.
use Rattle.std.proofs.Common.{◌≡◌, ◌≢◌, ◌↔◌, ◌||◌, Bool, true, false, is_some, nat_eq, Bor, ℕ, zero, suc, Option, Some, None, List, [], ◌∷◌, ◌++◌, length, slice_set, arith, refl, get_or, sym, ◌∙◌, ap, subst, inl, inr, ◌⊎◌, IsSomeAnd}
use Rattle.std.specs.List.{Contains}
use Rattle.std.specs.Option.{option_copied}
use Rattle.std.specs.List.Sorted.{IsPermutation}
use Rattle.std.proofs.lemmas.Bool.{cases_eq, false≢true}
use Rattle.std.proofs.lemmas.Bool.Decides.{nat_tests}
use Rattle.std.proofs.lemmas.List.{get_or-set_same, get_or-set_other}
use Rattle.std.proofs.lemmas.List.Sorted.{Contains-permutation}
use Rattle.std.proofs.lemmas.List.Elements.{Contains-append_cases, Contains-append_left, Contains-append_right, Contains-push, at_from_Contains}
use Rattle.timetable.specs.Journeys.{Reaches, Unbeaten}
use Rattle.pattern_tree.specs.Completeness.{IsPathOf}
use Rattle.pattern_tree.specs.Content.{Content}
use Rattle.pattern_tree.proofs.OrderFacts.{longest_still, own_still}
use Rattle.section_store.specs.Lasting.{IsExact}
use Rattle.section_store.specs.Sections.{Form, IsNew}
use Rattle.section_store.specs.Sources.{is_among}
use Rattle.pattern_query.specs.Questions.{tree_at}
use Rattle.store_excerpt.specs.Board.{AreOf, IsOneOf, IsSlotOf, IsBoardOf, AreExact, IsWholeAmong, AreWholeAmong}

pub in_one : (m s : ℕ) → Contains (m ∷ []) s → s ≡ m
in_one m s (k, below, is) = let zero' : k ≡ 0 = omega (arith, below) in sym (subst (λ (i : ℕ). get_or (m ∷ []) i s ≡ s) zero' is)

-- whether a stop is among some
pub among_new : (s : ℕ) (list : List ℕ) → is_among s list ≡ false → IsNew s list
among_new s [] none = tt
among_new s (m ∷ list) none = elim (cases_eq m s) [
  | inl same ↦ let met : is_among s (m ∷ list) ≡ true = grind (arith, nat_tests) in absurd (false≢true (sym none ∙ met))
  | inr other ↦ (λ is. other (sym is), among_new s list (let rest : is_among s list ≡ false = grind (arith, nat_tests) in rest))
]

pub among_has : (s : ℕ) (list : List ℕ) → is_among s list ≡ true → Contains list s
among_has s [] some = absurd (false≢true some)
among_has s (m ∷ list) some = elim (cases_eq m s) [
  | inl same ↦ (0, omega arith, same)
  | inr other ↦
      let later = among_has s list (let rest : is_among s list ≡ true = grind (arith, nat_tests) in rest) in
      Contains-append_right (m ∷ []) list s later
]

in_none : (s : ℕ) → Contains [] s → ⊥
in_none s has = let k = at_from_Contains [] s has in let b : ⊥ = omega (arith, k.1) in b

-- what is new isn't there
pub new_lacks : (s : ℕ) (list : List ℕ) → IsNew s list → Contains list s → ⊥
new_lacks s [] new has = in_none s has
new_lacks s (m ∷ list) new has = elim (Contains-append_cases (m ∷ []) list s has) [
  | inl here ↦ new.0 (in_one m s here)
  | inr later ↦ new_lacks s list new.1 later
]

pub among_is : (s : ℕ) (list : List ℕ) → Contains list s → is_among s list ≡ true
among_is s [] has = let k = at_from_Contains [] s has in absurd (let b : ⊥ = omega (arith, k.1) in b)
among_is s (m ∷ list) has = elim (cases_eq m s) [
  | inl same ↦ let met : is_among s (m ∷ list) ≡ true = grind (arith, nat_tests) in met
  | inr other ↦ elim (Contains-append_cases (m ∷ []) list s has) [
    | inl here ↦ absurd (other (sym (in_one m s here)))
    | inr later ↦ let rest = among_is s list later in let met : is_among s (m ∷ list) ≡ true = grind (arith, nat_tests) in met
  ]
]

among_last : (s : ℕ) (list : List ℕ) → is_among s (list ++ s ∷ []) ≡ true
among_last s [] = grind (arith, nat_tests)
among_last s (m ∷ list) = let later = among_last s list in grind (arith, nat_tests)

among_other : (s m : ℕ) (list : List ℕ) → s ≢ m → is_among s (list ++ m ∷ []) ≡ is_among s list
among_other s m [] other = grind (arith, nat_tests)
among_other s m (n ∷ list) other = ap (λ (b : Bool). nat_eq n s || b) (among_other s m list other)

some_is : (a b : Content) → Some a ≡ Some b → a ≡ b
some_is a b is = cc

pub none_some : (a : Content) → None ≡ Some a → ⊥
none_some a is = cc

-- a tree in its slot
pub board_more : (stops : ℕ) (list : List ℕ) (board : List (Option Content)) (tree : Content) → length board ≡ stops → IsBoardOf stops list board
    → IsBoardOf stops (list ++ tree.source ∷ []) (slice_set board tree.source (Some tree))
board_more stops list board tree long is = λ s below. elim (cases_eq s tree.source) [
  | inl same ↦
      let at : tree_at (slice_set board tree.source (Some tree)) tree.source ≡ Some tree = get_or-set_same board tree.source (Some tree) None (omega (arith, below, same, long)) in
      let there : IsSlotOf (list ++ tree.source ∷ []) tree.source (Some tree) = record {
        there = sym (among_last tree.source list);
        own = λ other is. ap (λ (t : Content). t.source) (sym (some_is tree other is));
      } in
      let here : IsSlotOf (list ++ tree.source ∷ []) tree.source (tree_at (slice_set board tree.source (Some tree)) tree.source) =
      subst (IsSlotOf (list ++ tree.source ∷ []) tree.source) (sym at) there in
      subst (λ (n : ℕ). IsSlotOf (list ++ tree.source ∷ []) n (tree_at (slice_set board tree.source (Some tree)) n)) (sym same) here
  | inr other ↦
      let kept : IsSlotOf (list ++ tree.source ∷ []) s (tree_at board s) = record {
        there = (is s below).there ∙ sym (among_other s tree.source list other);
        own = (is s below).own;
      } in
      subst (IsSlotOf (list ++ tree.source ∷ []) s) (sym (get_or-set_other board tree.source s (Some tree) None other)) kept
]

pub board_none : (stops : ℕ) (board : List (Option Content)) → ((s : ℕ) → tree_at board s ≡ None) → IsBoardOf stops [] board
board_none stops board bare = λ s below. record {
  there = ap (λ (slot : Option Content). is_some slot) (bare s);
  own = λ tree at. absurd (none_some tree (sym (bare s) ∙ at));
}

-- what a slot says
pub slot_none : (list : List ℕ) (s : ℕ) (slot : Option Content) → IsSlotOf list s slot → None ≡ slot → IsNew s list
slot_none list s slot is at = among_new s list (sym is.there ∙ ap (λ (p : Option Content). is_some p) (sym at))

pub slot_some : (list : List ℕ) (s : ℕ) (slot : Option Content) (tree : Content) → IsSlotOf list s slot → Some tree ≡ slot → Contains list s × (tree.source ≡ s)
slot_some list s slot tree is at = (among_has s list (sym is.there ∙ ap (λ (p : Option Content). is_some p) (sym at)), is.own tree (sym at))

pub slot_held : (list : List ℕ) (s : ℕ) (slot : Option Content) → IsSlotOf list s slot → IsSomeAnd slot (λ tree. tree.source ≡ s) ↔ Contains list s
slot_held list s None is = (λ held. absurd held, λ has. absurd (new_lacks s list (among_new s list (sym is.there)) has))
slot_held list s (Some tree) is = (λ held. among_has s list (sym is.there), λ has. is.own tree refl)

pub slot_missing : (list : List ℕ) (s : ℕ) (slot : Option Content) → IsSlotOf list s slot → (slot ≡ None) ↔ IsNew s list
slot_missing list s None is = (λ none. among_new s list (sym is.there), λ new. refl)
slot_missing list s (Some tree) is = (λ none. absurd cc, λ new. absurd (new_lacks s list new (among_has s list (sym is.there))))

copied_some : (found : Option (Bor Content)) → is_some (option_copied found) ≡ is_some found
copied_some None = refl
copied_some (Some tree) = refl

-- what a look at a slot says
pub look_none : (list : List ℕ) (s : ℕ) (slot : Option Content) (found : Option (Bor Content)) → IsSlotOf list s slot → option_copied found ≡ slot → is_some found ≡ false → IsNew s list
look_none list s slot found is at none =
    among_new s list (sym is.there ∙ ap (λ (p : Option Content). is_some p) (sym at) ∙ copied_some found ∙ none)

pub look_some : (list : List ℕ) (s : ℕ) (slot : Option Content) (found : Option (Bor Content)) → IsSlotOf list s slot → option_copied found ≡ slot → is_some found ≡ true → Contains list s
look_some list s slot found is at some =
    among_has s list (sym is.there ∙ ap (λ (p : Option Content). is_some p) (sym at) ∙ copied_some found ∙ some)

set_at : (board : List (Option Content)) (i : ℕ) (slot : Option Content) → (tree_at (slice_set board i slot) i ≡ slot) ⊎ (tree_at (slice_set board i slot) i ≡ tree_at board i)
set_at [] i slot = inr refl
set_at (x ∷ board) zero slot = inl refl
set_at (x ∷ board) (suc i) slot = set_at board i slot

-- what holds of each tree there
abbrev EachShown : (Content → Type 0) → List (Option Content) → Type 0
EachShown P board = (s : ℕ) (tree : Content) → tree_at board s ≡ Some tree → P tree

each_more : (P : Content → Type 0) (board : List (Option Content)) (i : ℕ) (tree : Content) → EachShown P board → P tree → EachShown P (slice_set board i (Some tree))
each_more P board i tree are is = λ s other at. elim (cases_eq s i) [
  | inl same ↦
      let here : tree_at (slice_set board i (Some tree)) i ≡ Some other = subst (λ (n : ℕ). tree_at (slice_set board i (Some tree)) n ≡ Some other) same at in
      elim (set_at board i (Some tree)) [
        | inl set ↦ subst P (some_is tree other (sym set ∙ here)) is
        | inr kept ↦ are i other (sym kept ∙ here)
      ]
  | inr apart ↦ are s other (sym (get_or-set_other board i s (Some tree) None apart) ∙ at)
]

each_none : (P : Content → Type 0) (board : List (Option Content)) → ((s : ℕ) → tree_at board s ≡ None) → EachShown P board
each_none P board bare = λ s tree at. absurd (none_some tree (sym (bare s) ∙ at))

pub same_more : (trees : List Content) (board : List (Option Content)) (tree patterns : Content) → AreOf trees board → patterns.source ≡ tree.source
    → IsPermutation tree.pairs patterns.pairs → AreOf (trees ++ tree ∷ []) (slice_set board patterns.source (Some patterns))
same_more trees board tree patterns are source is =
    each_more (IsOneOf (trees ++ tree ∷ [])) board patterns.source patterns
    (λ s other at. let h = are s other at in
    record { one = h.one; among = Contains-append_left trees (tree ∷ []) h.one h.among; source = h.source; pairs = h.pairs })
    (record { one = tree; among = Contains-push trees tree; source = source; pairs = is })

pub same_none : (board : List (Option Content)) → ((s : ℕ) → tree_at board s ≡ None) → AreOf [] board
same_none board = each_none (IsOneOf []) board

pub right_more : (form : Form) (board : List (Option Content)) (i : ℕ) (tree : Content) → AreExact form board → IsExact form tree → AreExact form (slice_set board i (Some tree))
right_more form = each_more (IsExact form)

pub right_none : (form : Form) (board : List (Option Content)) → ((s : ℕ) → tree_at board s ≡ None) → AreExact form board
right_none form = each_none (IsExact form)

pub whole_more : (form : Form) (froms : List ℕ) (board : List (Option Content)) (i : ℕ) (tree : Content)
    → AreWholeAmong form froms board → IsWholeAmong form froms tree → AreWholeAmong form froms (slice_set board i (Some tree))
whole_more form froms = each_more (IsWholeAmong form froms)

pub whole_none : (form : Form) (froms : List ℕ) (board : List (Option Content)) → ((s : ℕ) → tree_at board s ≡ None) → AreWholeAmong form froms board
whole_none form froms = each_none (IsWholeAmong form froms)

-- the patterns of a tree, in another order
pub right_still : (form : Form) (tree patterns : Content) → patterns.source ≡ tree.source → IsPermutation tree.pairs patterns.pairs → IsExact form tree → IsExact form patterns
right_still form tree patterns source same is = own_still form.table form.rides tree patterns source same is

pub whole_still : (form : Form) (froms : List ℕ) (tree patterns : Content) → patterns.source ≡ tree.source → IsPermutation tree.pairs patterns.pairs
    → IsWholeAmong form froms tree → IsWholeAmong form froms patterns
whole_still form froms tree patterns source same is = λ among.
    let was = is (subst (Contains froms) source among) in
    record {
      complete = λ d t n un.
          let c = was.complete d t n (subst (λ (s : ℕ). Unbeaten (Reaches form.table 1 form.rides s t d) n) source un) in
          (c.0, subst (λ (s : ℕ). IsPathOf form.table s t d n c.0) (sym source) c.1, Contains-permutation tree.pairs patterns.pairs (c.0, t) same c.2);
      short = longest_still tree.pairs patterns.pairs form.rides same was.short;
    }
