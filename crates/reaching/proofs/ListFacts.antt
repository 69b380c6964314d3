-- The list of the stops that are reached, as one more stop is looked at.
use Rattle.std.proofs.Common.{Option, ◌≡◌, ℕ, ◌+◌, ◌<◌, List, [], ◌∷◌, ◌++◌, arith, sym, ap₂, subst, inl, inr, IsPermutation}
use Rattle.std.specs.List.{All, AllPairs}
use Rattle.std.proofs.lemmas.Bool.{cases_lt}
use Rattle.std.proofs.lemmas.List.Elements.{All-push, Contains-append_left, Contains-push}
use Rattle.std.proofs.lemmas.List.Quantifiers.{all_pairs_push}
use Rattle.std.proofs.lemmas.List.Sorted.{All-permutation, Contains-permutation}
use Rattle.timetable.specs.declared.parts.Numbers.{Numbers}
use Rattle.timetable.specs.Table.{Table, stops_of}
use Rattle.timetable.specs.Journeys.{Reaches}
use Rattle.reaching.specs.Listed.{AreListed}
use Rattle.reaching.specs.Reached.{AreReached, IsBefore, IsBy, IsReached, IsSoonest, numbers}
use Rattle.reaching.specs.declared.reached.Reached.{Reached}

-- a set has one soonest numbers
one_soonest : (Of : Numbers → Type 0) (m n : Numbers) → IsSoonest Of m → IsSoonest Of n → m ≡ n
one_soonest Of m n a b = elim (a.1 n b.0) [
  | inl lt ↦ elim (b.1 m a.0) [
    | inl gt ↦ absurd (omega (arith, lt, gt))
    | inr e ↦ (let same = e.0 in absurd (omega (arith, lt, same)))
  ]
  | inr e ↦ elim (b.1 m a.0) [
    | inl gt ↦ (let same = e.0 in absurd (omega (arith, gt, same)))
    | inr f ↦
        let x = e.1 in let y = f.1 in
        let rides : m.rides ≡ n.rides = omega (arith, x, y) in
        ap₂ (λ (z r : ℕ). record { arrival = z; rides = r }) e.0 rides
  ]
]

module _ (table : Table) (k s d : ℕ) (last : Option ℕ) where
  pub listed_none : AreListed table k s d last 0 []
  listed_none = record {
    rising = λ i j e ij jl. absurd (omega (arith, jl));
    within = λ i e lt. absurd (omega (arith, lt));
    each = λ i e lt. absurd (omega (arith, lt));
    all = λ t m lt. absurd (omega (arith, lt));
  }

  weaker : (n : ℕ) (list : List Reached) → All (λ r. r.stop < n) list → All (λ r. r.stop < n + 1) list
  weaker n list h = λ i e lt. (let z = h i e lt in omega (arith, z))

  -- a stop at which one can be is put in
  pub listed_more : (n : ℕ) (list : List Reached) (r : Reached) → AreListed table k s d last n list → r.stop ≡ n → IsReached table k s d last r
      → AreListed table k s d last (n + 1) (list ++ r ∷ [])
  listed_more n list r is here reached = record {
    rising = all_pairs_push (λ a b. a.stop < b.stop) list r is.rising (λ i e lt. (let z = is.within i e lt in omega (arith, z, here)));
    within = All-push (λ r. r.stop < n + 1) list r (weaker n list is.within) (omega (arith, here));
    each = All-push (IsReached table k s d last) list r is.each reached;
    all = λ t m lt early soonest. elim (cases_lt t n) [
      | inl less ↦
          let old = is.all t m less early soonest in
          (old.0, Contains-append_left list (r ∷ []) old.0 old.1, old.2, old.3)
      | inr le ↦
          let same : t ≡ r.stop = omega (arith, lt, le, here) in
          let m_is : IsSoonest (Reaches table 0 k s r.stop d) m = subst (λ (t : ℕ). IsSoonest (Reaches table 0 k s t d) m) same soonest in
          (r, Contains-push list r, sym same, one_soonest (Reaches table 0 k s r.stop d) (numbers r) m reached.1 m_is)
    ];
  }

  -- one can't be at the stop by then
  pub listed_same : (n : ℕ) (list : List Reached) → AreListed table k s d last n list
      → ((m : Numbers) → IsBy last m.arrival → IsSoonest (Reaches table 0 k s n d) m → ⊥) → AreListed table k s d last (n + 1) list
  listed_same n list is never = record {
    rising = is.rising;
    within = weaker n list is.within;
    each = is.each;
    all = λ t m lt early soonest. elim (cases_lt t n) [
      | inl less ↦ is.all t m less early soonest
      | inr le ↦ (let same : t ≡ n = omega (arith, lt, le) in absurd (never m early (subst (λ (t : ℕ). IsSoonest (Reaches table 0 k s t d) m) same soonest)))
    ];
  }

  -- the soonest numbers there are later
  pub too_late : (t : ℕ) (n : Numbers) → IsSoonest (Reaches table 0 k s t d) n → (IsBy last n.arrival → ⊥) → (m : Numbers) → IsBy last m.arrival
      → IsSoonest (Reaches table 0 k s t d) m → ⊥
  too_late t n is late m early soonest =
      late (subst (λ (n : Numbers). IsBy last n.arrival) (one_soonest (Reaches table 0 k s t d) m n soonest is) early)

  -- all stops were looked at, and those that are reached sorted
  pub all_reached : (list sorted : List Reached) → AreListed table k s d last (stops_of table) list → IsPermutation list sorted → AllPairs IsBefore sorted
      → AreReached table k s d last sorted
  all_reached list sorted is moved before = record {
    rising = before;
    within = All-permutation (λ r. r.stop < stops_of table) list sorted moved is.within;
    each = All-permutation (IsReached table k s d last) list sorted moved is.each;
    all = λ t m lt early soonest.
        let old = is.all t m lt early soonest in
        (old.0, Contains-permutation list sorted old.0 moved old.1, old.2, old.3);
  }
