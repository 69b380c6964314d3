-- How a content comes to have the pairs that the rounds give.
use Rattle.std.proofs.Common.{Option, ◌≡◌, ℕ, ◌+◌, ◌-◌, ◌<◌, ◌≤◌, ◌⊎◌, ◌↔◌, List, ◌∷◌, length, get_or, Some, None, IsSomeAnd, arith, sym, ◌∙◌, ap, subst, inl, inr}
use Rattle.std.specs.List.{Contains}
use Rattle.std.proofs.lemmas.Bool.{cases_eq}
use Rattle.timetable.specs.Front.{IsSooner}
use Rattle.rounds.proofs.LayerSteps.{SeenIn, seen_next}
use Rattle.rounds.specs.Mark.{Mark, mark_in, arrival_in}
use Rattle.pattern_tree.specs.Forest.{Step, Pair}
use Rattle.pattern_tree.proofs.PairFacts.{contains_in, in_contains}
use Rattle.pattern_building.specs.RoundPairs.{Gives, InRound, UpToRound, IsGiven, AddsGiven, Keeps, HasGiven}

-- the pairs of the list, and one more
abbrev pub IsAdded : List Pair → List Pair → Pair → Type 0
IsAdded old new p = (q : Pair) → Contains new q ↔ (Contains old q ⊎ (q ≡ p))

-- the stop n after `rides` rides
abbrev pub AtStop : ℕ → ℕ → ℕ → ℕ → Type 0
AtStop rides n r t = (r ≡ rides) × (t ≡ n)

module _ (rounds : List (List (Option Mark))) where
  pub given_wider : (S T : ℕ → ℕ → Type 0) → ((r t : ℕ) → S r t → T r t) → (p : Pair) → IsGiven rounds S p → IsGiven rounds T p
  given_wider S T wider p given = (given.0, wider given.0 p.1 given.1, given.2)

  pub adds_wider : (S T : ℕ → ℕ → Type 0) (old new : List Pair) → ((r t : ℕ) → S r t → T r t) → AddsGiven rounds S old new → AddsGiven rounds T old new
  adds_wider S T old new wider adds = λ p h. elim (adds p h) [ inl was ↦ inl was | inr given ↦ inr (given_wider S T wider p given) ]

  -- what two steps add
  pub adds_then : (S T : ℕ → ℕ → Type 0) (old middle new : List Pair) → ((r t : ℕ) → S r t → T r t)
      → AddsGiven rounds S old middle → AddsGiven rounds T middle new → AddsGiven rounds T old new
  adds_then S T old middle new wider first second = λ p h. elim (second p h) [
    | inl was ↦ adds_wider S T old middle wider first p was
    | inr given ↦ inr given
  ]

  -- what one pair adds
  pub adds_one : (S T : ℕ → ℕ → Type 0) (old middle new : List Pair) (p : Pair) → ((r t : ℕ) → S r t → T r t)
      → AddsGiven rounds S old middle → IsGiven rounds T p → IsAdded middle new p → AddsGiven rounds T old new
  adds_one S T old middle new p wider first given added = λ q h. elim ((added q).0 h) [
    | inl was ↦ adds_wider S T old middle wider first q was
    | inr is ↦ inr (subst (λ (x : Pair). IsGiven rounds T x) (sym is) given)
  ]

  pub has_then : (S T U : ℕ → ℕ → Type 0) (old new : List Pair) → ((r t : ℕ) → U r t → S r t ⊎ T r t)
      → HasGiven rounds S old → Keeps old new → HasGiven rounds T new → HasGiven rounds U new
  has_then S T U old new split before keeps now = λ p given. elim (split given.0 p.1 given.1) [
    | inl was ↦ keeps p (before p (given.0, was, given.2))
    | inr here ↦ now p (given.0, here, given.2)
  ]

  pub has_narrower : (S T : ℕ → ℕ → Type 0) (content : List Pair) → ((r t : ℕ) → T r t → S r t) → HasGiven rounds S content → HasGiven rounds T content
  has_narrower S T content narrower has = λ p given. has p (given.0, narrower given.0 p.1 given.1, given.2)

  same_path : (o : Option Mark) (x y : List Step) → IsSomeAnd o (λ m. x ≡ m.path) → IsSomeAnd o (λ m. y ≡ m.path) → x ≡ y
  same_path None x y h k = absurd h
  same_path (Some m) x y h k = h ∙ sym k

  -- after some rides at most one pair of each end is given
  same_given : (r : ℕ) (p q : Pair) → Gives rounds r p → Gives rounds r q → p.1 ≡ q.1 → p ≡ q
  same_given r p q g h same =
      let k : IsSomeAnd (mark_in rounds r q.1) (λ m. p.0 ≡ m.path) = subst (λ (t : ℕ). IsSomeAnd (mark_in rounds r t) (λ m. p.0 ≡ m.path)) same g.1 in
      ap (λ (x : List Step). (x, p.1)) (same_path (mark_in rounds r q.1) p.0 q.0 k h.1) ∙ ap (λ (t : ℕ). (q.0, t)) same

  -- the stop n after some rides, if a pair is given
  pub has_one : (rides n : ℕ) (p : Pair) (new : List Pair) → Gives rounds rides p → p.1 ≡ n → Contains new p
      → HasGiven rounds (AtStop rides n) new
  has_one rides n p new gives at there = λ q given.
      let here : Gives rounds rides q = subst (λ (r : ℕ). Gives rounds r q) given.1.0 given.2 in
      subst (λ (x : Pair). Contains new x) (same_given rides p q gives here (at ∙ sym given.1.1)) there

  -- and if none is
  pub has_none : (rides n : ℕ) (new : List Pair) → (IsSooner (arrival_in rounds rides n) (arrival_in rounds (rides - 1) n) → ⊥)
      → HasGiven rounds (AtStop rides n) new
  has_none rides n new not_sooner = λ q given.
      absurd (not_sooner (subst (λ (r : ℕ). IsSooner (arrival_in rounds r n) (arrival_in rounds (r - 1) n)) given.1.0
      (subst (λ (t : ℕ). IsSooner (arrival_in rounds given.0 t) (arrival_in rounds (given.0 - 1) t)) given.1.1 given.2.0)))

-- the first n of a list of stops, after `rides` rides
abbrev pub SeenAt : ℕ → ℕ → List ℕ → ℕ → ℕ → ℕ → Type 0
SeenAt rides stops listed n r t = (r ≡ rides) × (t < stops) × SeenIn listed n t

-- one stop more, or one number of rides more
pub next_stop : (rides stops : ℕ) (listed : List ℕ) (n x r t : ℕ) → n < length listed → x ≡ get_or listed n x
    → SeenAt rides stops listed (n + 1) r t → SeenAt rides stops listed n r t ⊎ (AtStop rides x r t × (t < stops))
next_stop rides stops listed n x r t in' is h = elim (seen_next listed n x t in' is h.2) [
  | inl before ↦ inl (h.0, h.1, before)
  | inr now ↦ inr ((h.0, now), h.1)
]

pub next_round : (rides n r t : ℕ) → UpToRound (rides + 1) n r t → UpToRound rides n r t ⊎ InRound (rides + 1) n r t
next_round rides n r t h = elim (cases_eq r (rides + 1)) [
  | inl is ↦ inr (is, h.2)
  | inr apart ↦ inl (h.0, (let a = h.1 in let k : r ≤ rides = omega (arith, a, apart) in k), h.2)
]

pub more_rounds : (rides most n r t : ℕ) → rides ≤ most → UpToRound rides n r t → UpToRound most n r t
more_rounds rides most n r t le h = (h.0, (let a = h.1 in let k : r ≤ most = omega (arith, a, le) in k), h.2)

pub own_round : (rides n r t : ℕ) → InRound (rides + 1) n r t → UpToRound (rides + 1) n r t
own_round rides n r t h = (let a = h.0 in (let k : 1 ≤ r = omega (arith, a) in k, let k : r ≤ rides + 1 = omega (arith, a) in k, h.1))

-- what one pair in front adds
pub adds_front : (rounds : List (List (Option Mark))) (S : ℕ → ℕ → Type 0) (content : List Pair) (p : Pair) → IsGiven rounds S p → AddsGiven rounds S content (p ∷ content)
adds_front rounds S content p given = λ q h. elim (contains_in q (p ∷ content) h) [
  | inl is ↦ inr (subst (λ (x : Pair). IsGiven rounds S x) (sym is) given)
  | inr was ↦ inl (in_contains q content was)
]
