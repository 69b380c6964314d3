-- Trees of parts, of which no two of one stop differ.
use Rattle.std.proofs.Common.{◌≡◌, ◌∙◌, ℕ, List, [], ◌∷◌, ◌++◌, Contains, Option, None, Some, get_or, arith, ap, refl, sym, subst, inl, inr}
use Rattle.std.proofs.lemmas.List.Elements.{All-contains, Contains-append_cases, Contains-append_left, Contains-push, at_from_Contains}
use Rattle.pattern_tree.specs.Content.{Content}
use Rattle.section_store.specs.Sections.{AreApart, Form, IsNew, Stands, sources}
use Rattle.merging.specs.Laws.{Agree}
use Rattle.merging.specs.Merging.{tree_of}
use Rattle.merging.proofs.Finding.{found_in, found_none, found_source}
use Rattle.part_shelf.specs.Comparing.{AgreeWith}

one_in : {X : Type 0} (x a : X) → Contains (x ∷ []) a → a ≡ x
one_in x a (k, below, is) = let zero' : k ≡ 0 = omega (arith, below) in sym (subst (λ (i : ℕ). get_or (x ∷ []) i a ≡ a) zero' is)

none_in : {X : Type 0} (a : X) → Contains [] a → ⊥
none_in a has = let k = at_from_Contains [] a has in let b : ⊥ = omega (arith, k.1) in b

new_lacks : (n : ℕ) (ms : List ℕ) → IsNew n ms → Contains ms n → ⊥
new_lacks n [] new has = none_in n has
new_lacks n (m ∷ ms) new has = elim (Contains-append_cases (m ∷ []) ms n has) [
  | inl here ↦ new.0 (one_in m n here)
  | inr later ↦ new_lacks n ms new.1 later
]

-- a tree after others has another source than they
later_other : (before : List ℕ) (trees : List Content) (m : ℕ) (t : Content) → AreApart before (sources trees) → Contains before m
    → Contains trees t → t.source ≡ m → ⊥
later_other before [] m t apart had has same = none_in t has
later_other before (x ∷ trees) m t apart had has same = elim (Contains-append_cases (x ∷ []) trees t has) [
  | inl here ↦ new_lacks x.source before apart.0 (subst (Contains before) (sym same ∙ ap (λ (c : Content). c.source) (one_in x t here)) had)
  | inr later ↦ later_other (before ++ x.source ∷ []) trees m t apart.1 (Contains-append_left before (x.source ∷ []) m had) later same
]

apart_one : (before : List ℕ) (trees : List Content) (a b : Content) → AreApart before (sources trees) → Contains trees a → Contains trees b
    → a.source ≡ b.source → a ≡ b
apart_one before [] a b apart has_a has_b same = absurd (none_in a has_a)
apart_one before (x ∷ trees) a b apart has_a has_b same = elim (Contains-append_cases (x ∷ []) trees a has_a) [
  | inl a_here ↦ elim (Contains-append_cases (x ∷ []) trees b has_b) [
    | inl b_here ↦ one_in x a a_here ∙ sym (one_in x b b_here)
    | inr b_later ↦ absurd (later_other (before ++ x.source ∷ []) trees x.source b apart.1 (Contains-push before x.source) b_later
        (sym same ∙ ap (λ (c : Content). c.source) (one_in x a a_here)))
  ]
  | inr a_later ↦ elim (Contains-append_cases (x ∷ []) trees b has_b) [
    | inl b_here ↦ absurd (later_other (before ++ x.source ∷ []) trees x.source a apart.1 (Contains-push before x.source) a_later
        (same ∙ ap (λ (c : Content). c.source) (one_in x b b_here)))
    | inr b_later ↦ apart_one (before ++ x.source ∷ []) trees a b apart.1 a_later b_later same
  ]
]

-- a file has one tree of a source
stands_one : (form : Form) (bytes : List ℕ) (trees : List Content) (a b : Content) → Stands form bytes trees → Contains trees a → Contains trees b
    → a.source ≡ b.source → a ≡ b
stands_one form bytes trees a b (inl fresh) has_a has_b same = absurd (none_in a (subst (λ (l : List Content). Contains l a) fresh.1 has_a))
stands_one form bytes trees a b (inr are) has_a has_b same = apart_one [] trees a b are.apart has_a has_b same

-- a tree of the one list and one of the other
across : (all trees : List Content) → Agree all → AgreeWith all trees → (a b : Content) → Contains all a → Contains trees b → a.source ≡ b.source → a ≡ b
across all trees agree with a b has_a has_b same = found (tree_of all b.source) refl where
  found : (o : Option Content) → tree_of all b.source ≡ o → a ≡ b
  found None is = absurd (found_none all b.source a is has_a same)
  found (Some u) is =
      agree a u has_a (found_in all b.source u is) (same ∙ sym (found_source all b.source u is))
      ∙ sym (All-contains (λ (tree : Content). (other : Content) → tree_of all tree.source ≡ Some other → tree ≡ other) trees b with has_b u is)

-- all that are there, and those of one part more
pub agree_more : (form : Form) (bytes : List ℕ) (all trees : List Content) → Agree all → Stands form bytes trees → AgreeWith all trees → Agree (all ++ trees)
agree_more form bytes all trees agree stands with = λ a b has_a has_b same.
    elim (Contains-append_cases all trees a has_a) [
      | inl a_before ↦ elim (Contains-append_cases all trees b has_b) [
        | inl b_before ↦ agree a b a_before b_before same
        | inr b_own ↦ across all trees agree with a b a_before b_own same
      ]
      | inr a_own ↦ elim (Contains-append_cases all trees b has_b) [
        | inl b_before ↦ sym (across all trees agree with b a b_before a_own (sym same))
        | inr b_own ↦ stands_one form bytes trees a b stands a_own b_own same
      ]
    ]
