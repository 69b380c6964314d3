-- Journeys of the trees that are shown, and of the trees that a file stands for.
use Rattle.std.proofs.Common.{Option, Some, None, IsSomeAnd, ◌≡◌, ◌∙◌, ℕ, Bool, List, [], ◌∷◌, ◌++◌, All, Contains, get_or, arith, ap, refl, sym, subst, inl, inr}
use Rattle.std.specs.List.{AllZip}
use Rattle.std.specs.List.Sorted.{IsPermutation}
use Rattle.std.proofs.lemmas.List.Elements.{All-contains, Contains-append_cases, Contains-append_left, Contains-push, at_from_Contains}
use Rattle.std.proofs.lemmas.List.Sorted.{Contains-permutation, IsPermutation-sym}
use Rattle.timetable.specs.declared.parts.Numbers.{Numbers}
use Rattle.timetable.specs.Journeys.{pattern}
use Rattle.timetable.specs.Table.{Table}
use Rattle.pattern_tree.specs.Content.{Content}
use Rattle.timetable.specs.Front.{AreBest}
use Rattle.pattern_query.specs.Answer.{PointData, IsJourney, IsPoint}
use Rattle.pattern_query.specs.Leaving.{LeavesLast}
use Rattle.pattern_query.specs.Questions.{AskedReaches, IsAskedPoint, IsStored, tree_at}
use Rattle.section_store.specs.Sections.{AreApart, Form, Stands, sources}
use Rattle.store_excerpt.specs.Board.{AreOf}
use Rattle.store_audit.proofs.SameTrees.{reaches_same}
use Rattle.store_excerpt.proofs.BoardFacts.{new_lacks}
use Rattle.answer_lines.specs.declared.answer.Answer.{Answer}
use Rattle.answer_lines.specs.declared.answer.Answer.TheVariants as answers
use Rattle.answer_lines.specs.declared.answer.Point.{Point}
use Rattle.feed_basis.specs.Basis.{BasisData}
use Rattle.answering.specs.Answers.{TellsFront, TellsReached}
use Rattle.store_answers.specs.Asked.{IsStoredPoint, StoredReaches}

one_in : {X : Type 0} (x a : X) → Contains (x ∷ []) a → a ≡ x
one_in x a (k, below, is) = let zero' : k ≡ 0 = omega (arith, below) in sym (subst (λ (i : ℕ). get_or (x ∷ []) i a ≡ a) zero' is)

none_in : {X : Type 0} (a : X) → Contains [] a → ⊥
none_in a has = let k = at_from_Contains [] a has in let b : ⊥ = omega (arith, k.1) in b

-- a tree after others has another source than they
later_other : (before : List ℕ) (trees : List Content) (m : ℕ) (t : Content) → AreApart before (sources trees) → Contains before m
    → Contains trees t → t.source ≡ m → ⊥
later_other before [] m t apart had has same = none_in t has
later_other before (x ∷ trees) m t apart had has same = elim (Contains-append_cases (x ∷ []) trees t has) [
  | inl here ↦ new_lacks x.source before apart.0 (subst (Contains before) (sym same ∙ ap (λ (c : Content). c.source) (one_in x t here)) had)
  | inr later ↦ later_other (before ++ x.source ∷ []) trees m t apart.1 (Contains-append_left before (x.source ∷ []) m had) later same
]

apart_one : (before : List ℕ) (trees : List Content) (a b : Content) → AreApart before (sources trees) → Contains trees a → Contains trees b
    → a.source ≡ b.source → a ≡ b
apart_one before [] a b apart has_a has_b same = absurd (none_in a has_a)
apart_one before (x ∷ trees) a b apart has_a has_b same = elim (Contains-append_cases (x ∷ []) trees a has_a) [
  | inl a_here ↦ elim (Contains-append_cases (x ∷ []) trees b has_b) [
    | inl b_here ↦ one_in x a a_here ∙ sym (one_in x b b_here)
    | inr b_later ↦ absurd (later_other (before ++ x.source ∷ []) trees x.source b apart.1 (Contains-push before x.source) b_later
        (sym same ∙ ap (λ (c : Content). c.source) (one_in x a a_here)))
  ]
  | inr a_later ↦ elim (Contains-append_cases (x ∷ []) trees b has_b) [
    | inl b_here ↦ absurd (later_other (before ++ x.source ∷ []) trees x.source a apart.1 (Contains-push before x.source) a_later
        (same ∙ ap (λ (c : Content). c.source) (one_in x b b_here)))
    | inr b_later ↦ apart_one (before ++ x.source ∷ []) trees a b apart.1 a_later b_later same
  ]
]

-- a file has one tree of a source
stands_one : (form : Form) (bytes : List ℕ) (trees : List Content) (a b : Content) → Stands form bytes trees → Contains trees a → Contains trees b
    → a.source ≡ b.source → a ≡ b
stands_one form bytes trees a b (inl fresh) has_a has_b same = absurd (none_in a (subst (λ (l : List Content). Contains l a) fresh.1 has_a))
stands_one form bytes trees a b (inr are) has_a has_b same = apart_one [] trees a b are.apart has_a has_b same

-- the best of a set are the best of a set that has the same numbers
best_same : (P Q : Numbers → Type 0) (front : List Numbers) → ((n : Numbers) → P n → Q n) → ((n : Numbers) → Q n → P n) → AreBest P front
    → AreBest Q front
best_same P Q front to from are = record {
  rising = are.rising;
  each = λ n c. let best = are.each n c in (to n best.0, λ m of. best.1 m (from m of));
  all = λ n best. are.all n (from n best.0, λ m of. best.1 m (to m of));
}

-- the tree that is there
held_tree : (s : ℕ) (slot : Option Content) → IsSomeAnd slot (λ tree. tree.source ≡ s) → (tree : Content) × (slot ≡ Some tree) × (tree.source ≡ s)
held_tree s None stored = absurd stored
held_tree s (Some tree) stored = (tree, refl, stored)

-- a tree that is there where it is stored is its stop's
own_of : (s : ℕ) (slot : Option Content) (tree : Content) → IsSomeAnd slot (λ t. t.source ≡ s) → slot ≡ Some tree → tree.source ≡ s
own_of s slot tree stored is = subst (λ (o : Option Content). IsSomeAnd o (λ t. t.source ≡ s)) is stored

-- what reports points of a set reports points of a larger one
points_weaker : (basis : BasisData) (Of As : PointData → Type 0) (legs : Bool) (front : List Numbers) (points : List Point)
    → ((p : PointData) → Of p → As p) → AllZip (TellsReached basis Of legs) front points → AllZip (TellsReached basis As legs) front points
points_weaker basis Of As legs [] [] f h = tt
points_weaker basis Of As legs [] (point ∷ points) f h = absurd h
points_weaker basis Of As legs (n ∷ front) [] f h = absurd h
points_weaker basis Of As legs (n ∷ front) (point ∷ points) f h = (
  record {
    rides = h.0.rides;
    at = h.0.at;
    staged = λ e. let s = h.0.staged e in record { point = s.point; is = f s.point s.is; reaches = s.reaches; told = s.told };
    unstaged = h.0.unstaged;
  },
  points_weaker basis Of As legs front points f h.1,
)

pub front_weaker : (basis : BasisData) (Of As : PointData → Type 0) (legs : Bool) (front : List Numbers) (answer : Answer)
    → ((p : PointData) → Of p → As p) → TellsFront basis Of legs front answer → TellsFront basis As legs front answer
front_weaker basis Of As legs front answers.NoRide f h = absurd h
front_weaker basis Of As legs front (answers.Arrive time) f h = absurd h
front_weaker basis Of As legs front (answers.Points points) f h = points_weaker basis Of As legs front points.items f h

-- a point of a tree is one of a tree with the same source and the same pairs
point_same : (table : Table) (a b : Content) (t d : ℕ) (p : PointData) → a.source ≡ b.source → IsPermutation a.pairs b.pairs
    → IsPoint table a t d p → IsPoint table b t d p
point_same table a b t d p source pairs h = record {
  is = subst (λ (s : ℕ). IsJourney table s t d p) source h.is;
  few = h.few;
  has = elim h.has [
    | inl on_foot ↦ inl on_foot
    | inr has ↦ inr (Contains-permutation a.pairs b.pairs (pattern table p.legs, t) pairs has)
  ];
}

module _ (table : Table) (trees : List Content) (board : List (Option Content)) (froms tos : List ℕ) (d : ℕ) (are : AreOf trees board)
    (stored : All (IsStored (tree_at board)) froms) where
  -- a journey of a tree that is shown is one of a tree of the file
  pub in_trees : (p : PointData) → IsAskedPoint table (tree_at board) froms tos d p → IsStoredPoint table trees froms tos d p
  in_trees p (tree, asked, is) =
      let one = are tree.source tree asked.1 in (
        one.one,
        (one.among, subst (Contains froms) one.source asked.0, asked.2),
        point_same table tree one.one p.to d p one.source (IsPermutation-sym one.one.pairs tree.pairs one.pairs) is,
      )

  -- and the other way round
  pub in_board : (form : Form) (bytes : List ℕ) → Stands form bytes trees → (p : PointData) → IsStoredPoint table trees froms tos d p
      → IsAskedPoint table (tree_at board) froms tos d p
  in_board form bytes stands p (tree, (among, starts, ends), is) =
      let held = held_tree tree.source (tree_at board tree.source) (All-contains (IsStored (tree_at board)) froms tree.source stored starts) in
      let there : Content = held.0 in
      let one = are tree.source there held.1 in
      let same : one.one ≡ tree = stands_one form bytes trees one.one tree stands one.among among (sym one.source ∙ held.2) in
      let pairs : IsPermutation tree.pairs there.pairs = subst (λ (c : Content). IsPermutation c.pairs there.pairs) same one.pairs in (
        there,
        (
          subst (Contains froms) (sym held.2) starts,
          subst (λ (m : ℕ). tree_at board m ≡ Some there) (sym held.2) held.1,
          ends,
        ),
        point_same table tree there p.to d p (sym held.2) pairs is,
      )

  -- so what leaves last of the one leaves last of the other
  pub last_stored : (form : Form) (bytes : List ℕ) → Stands form bytes trees → (p : PointData)
      → LeavesLast table (IsAskedPoint table (tree_at board) froms tos d) p → LeavesLast table (IsStoredPoint table trees froms tos d) p
  last_stored form bytes stands p last = λ q of same. last q (in_board form bytes stands q of) same

  pub reaches_stored : (n : Numbers) → AskedReaches table (tree_at board) froms tos d n → StoredReaches table trees froms tos d n
  reaches_stored n (tree, t, asked, reaches) =
      let one = are tree.source tree asked.1 in (
        one.one,
        t,
        (one.among, subst (Contains froms) one.source asked.0, asked.2),
        reaches_same table tree one.one t d n one.source (IsPermutation-sym one.one.pairs tree.pairs one.pairs) reaches,
      )

  pub stored_reaches : (form : Form) (bytes : List ℕ) → Stands form bytes trees → (n : Numbers) → StoredReaches table trees froms tos d n
      → AskedReaches table (tree_at board) froms tos d n
  stored_reaches form bytes stands n (tree, t, (among, starts, ends), reaches) =
      let s = tree.source in
      let held = held_tree s (tree_at board s) (All-contains (IsStored (tree_at board)) froms s stored starts) in
      let there : Content = held.0 in
      let one = are s there held.1 in
      let same : one.one ≡ tree = stands_one form bytes trees one.one tree stands one.among among (sym one.source ∙ held.2) in
      let pairs : IsPermutation tree.pairs there.pairs = subst (λ (c : Content). IsPermutation c.pairs there.pairs) same one.pairs in (
        there,
        t,
        (
          subst (Contains froms) (sym held.2) starts,
          subst (λ (m : ℕ). tree_at board m ≡ Some there) (sym held.2) held.1,
          ends,
        ),
        reaches_same table tree there t d n (sym held.2) pairs reaches,
      )

  -- so the best of the trees that are shown are the best of those of the file
  pub best_stored : (form : Form) (bytes : List ℕ) (front : List Numbers) → Stands form bytes trees
      → AreBest (AskedReaches table (tree_at board) froms tos d) front → AreBest (StoredReaches table trees froms tos d) front
  best_stored form bytes front stands =
      best_same (AskedReaches table (tree_at board) froms tos d) (StoredReaches table trees froms tos d) front reaches_stored
      (stored_reaches form bytes stands)
