-- Travel times by the steps of a stop and the walk there.
use Rattle.std.proofs.Common.{Option, Some, None, ◌≡◌, ℕ, ◌+◌, ◌-◌, ◌<◌, ◌≤◌, ◌⊎◌, Bool, true, false, ◌||◌, IsSomeAnd, List, [], ◌∷◌, ◌++◌, length, get_or, arith, refl, sym, ◌∙◌, ap, subst, inl, inr}
use Rattle.std.specs.List.{All}
use Rattle.std.proofs.lemmas.Bool.{cases_lt, le-leb, leb-true}
use Rattle.std.proofs.lemmas.List.Elements.{All-push, Contains-append_left, Contains-push}
use Rattle.std.proofs.lemmas.List.Quantifiers.{all_pairs_push}
use Rattle.timetable.specs.declared.parts.Leg.{Leg}
use Rattle.timetable.specs.declared.parts.Numbers.{Numbers}
use Rattle.timetable.specs.Table.{Table, stops_of}
use Rattle.timetable.specs.Journeys.{IsLeast, Journey, foot}
use Rattle.timetable.proofs.Taken.{the_some}
use Rattle.rounds.specs.Answers.{ArrivesWithin}
use Rattle.reaching.specs.declared.steps.Step.{Step}
use Rattle.reaching.specs.declared.travel_time.TravelTimes.{TravelTimes}
use Rattle.reaching.specs.Steps.{AreTimesBelow, Covers, IsNeverThere, arrival_at, is_some_by, is_within, tally}
use Rattle.reaching.specs.TravelTimes.{AreTimes, AreTravelTimes, HasSeconds, IsRank, Within}
use Rattle.reaching.proofs.SecondFacts.{Tells, seconds_from_tally, tally_from_seconds}

or_cases : (a b : Bool) → (a || b) ≡ true → (a ≡ true) ⊎ (b ≡ true)
or_cases true b h = inl refl
or_cases false b h = inr h

or_left : (a b : Bool) → a ≡ true → (a || b) ≡ true
or_left a b h = ap (λ (c : Bool). c || b) h

or_right : (a b : Bool) → b ≡ true → (a || b) ≡ true
or_right true b h = refl
or_right false b h = h

by_some : (o : Option ℕ) (x : ℕ) → is_some_by o x ≡ true → (n : ℕ) × (o ≡ Some n) × (n ≤ x)
by_some None x h = absurd (cc h)
by_some (Some n) x h = (n, refl, leb-true n x h)

some_by : (o : Option ℕ) (n x : ℕ) → o ≡ Some n → n ≤ x → is_some_by o x ≡ true
some_by o n x some le = ap (λ (p : Option ℕ). is_some_by p x) some ∙ le-leb n x le

-- the least one, if there is one
least_by : (Of : ℕ → Type 0) (o : Option ℕ) (z : ℕ) → IsLeast Of o → Of z → (a : ℕ) × (o ≡ Some a) × (a ≤ z)
least_by Of None z l of = absurd (l z of)
least_by Of (Some a) z l of = (a, refl, l.1 z of)

least_is : (Of : ℕ → Type 0) (o : Option ℕ) (a : ℕ) → IsLeast Of o → o ≡ Some a → Of a
least_is Of o a l some = (subst (λ (p : Option ℕ). IsLeast Of p) some l).0

same_least : (P Q : ℕ → Type 0) (o : Option ℕ) → ((x : ℕ) → P x → Q x) → ((x : ℕ) → Q x → P x) → IsLeast P o → IsLeast Q o
same_least P Q None to back l = λ x q. l x (back x q)
same_least P Q (Some a) to back l = (to a l.0, λ x q. l.1 x (back x q))

module _ (table : Table) (k s t first last : ℕ) (some : first ≤ last) (steps : List Step)
    (covers : Covers table k s t first last steps) where
  reached : (x d : ℕ) → first ≤ d → d ≤ last → is_within (foot table s t) steps x d ≡ true → Within table k s t x d
  reached x d after early h = elim (or_cases (is_some_by (foot table s t) x) (is_some_by (arrival_at steps d) (d + x)) h) [
    | inl walk ↦
        let w = by_some (foot table s t) x walk in
        let le = w.2 in (
          record { arrival = d + w.0; rides = 0 },
          ([], subst (λ (o : Option ℕ). IsSomeAnd o (λ v. d + w.0 ≡ d + v)) (sym w.1) refl, refl, omega arith, omega arith),
          (let z : d + w.0 ≤ d + x = omega (arith, le) in z),
        )
    | inr ridden ↦
        let a = by_some (arrival_at steps d) (d + x) ridden in
        let of = least_is (ArrivesWithin table s d k t) (arrival_at steps d) a.0 (covers.least d after early) a.1 in
        (record { arrival = a.0; rides = length of.0 }, (of.0, of.1, refl, omega arith, of.3), a.2)
  ]

  passes : (x d : ℕ) → first ≤ d → d ≤ last → (m : Numbers) → m.arrival ≤ d + x → (legs : List Leg) → Journey table s d legs t m.arrival
      → length legs ≡ m.rides → m.rides ≤ k → is_within (foot table s t) steps x d ≡ true
  passes x d after early m le [] j count few =
      let w = the_some (foot table s t) (λ w. m.arrival ≡ d + w) j in
      let is = w.2 in
      or_left (is_some_by (foot table s t) x) (is_some_by (arrival_at steps d) (d + x))
      (some_by (foot table s t) w.0 x w.1 (omega (arith, is, le)))
  passes x d after early m le (leg ∷ legs) j count few =
      let of : ArrivesWithin table s d k t m.arrival = (leg ∷ legs, j, omega arith, omega (arith, count, few)) in
      let a = least_by (ArrivesWithin table s d k t) (arrival_at steps d) m.arrival (covers.least d after early) of in
      let sooner = a.2 in
      or_right (is_some_by (foot table s t) x) (is_some_by (arrival_at steps d) (d + x))
      (some_by (arrival_at steps d) a.0 (d + x) a.1 (omega (arith, sooner, le)))

  tells : (x : ℕ) → Tells first last (Within table k s t x) (is_within (foot table s t) steps x)
  tells x = record {
    yes = reached x;
    true = λ d after early is. passes x d after early is.0 is.2 is.1.0 is.1.1 is.1.2 is.1.4;
  }

  -- the rank by the counts
  pub rank_is : (j : ℕ) (o : Option ℕ) → IsLeast (λ x. j ≤ tally (is_within (foot table s t) steps x) first (last + 1 - first)) o
      → IsRank table k s t first last j o
  rank_is j o = same_least (λ x. j ≤ tally (is_within (foot table s t) steps x) first (last + 1 - first))
      (λ x. HasSeconds first last (Within table k s t x) j) o
      (λ x le. seconds_from_tally first last some (Within table k s t x) (is_within (foot table s t) steps x) (tells x) j le)
      (λ x has. tally_from_seconds first last some (Within table k s t x) (is_within (foot table s t) steps x) (tells x) j has)

  -- with no least travel time one never gets there
  pub never_there : IsRank table k s t first last 1 None → IsNeverThere table k s t first last
  never_there none d m after early of = none m.arrival (
    d ∷ [],
    (λ i lt. absurd (omega (arith, lt))),
    λ i e lt.
        let zero' : i ≡ 0 = omega (arith, lt) in
        let Is = λ (x : ℕ). (first ≤ x) × (x ≤ last) × Within table k s t m.arrival x in
        subst (λ (n : ℕ). Is (get_or (d ∷ []) n e)) (sym zero') (after, early, (m, of, omega arith)),
    omega arith,
  )

-- ---- the list of travel times, as one more stop is looked at

module _ (table : Table) (k s first last : ℕ) where
  pub below_none : AreTimesBelow table k s first last 0 []
  below_none = record {
    rising = λ i j e ij jl. absurd (omega (arith, jl));
    known = λ i e lt. absurd (omega (arith, lt));
    each = λ i e lt. absurd (omega (arith, lt));
    all = λ t d m lt. absurd (omega (arith, lt));
  }

  wider : (n : ℕ) (list : List TravelTimes) → All (λ (r : TravelTimes). r.stop < n) list → All (λ (r : TravelTimes). r.stop < n + 1) list
  wider n list h = λ i e lt. (let z = h i e lt in omega (arith, z))

  -- a stop that one reaches
  pub below_more : (n : ℕ) (list : List TravelTimes) (r : TravelTimes) → AreTimesBelow table k s first last n list → r.stop ≡ n
      → AreTimes table k s first last r → AreTimesBelow table k s first last (n + 1) (list ++ r ∷ [])
  below_more n list r is here are = record {
    rising = all_pairs_push (λ (a b : TravelTimes). a.stop < b.stop) list r is.rising
        (λ i e lt. (let z = is.known i e lt in omega (arith, z, here)));
    known = All-push (λ (r : TravelTimes). r.stop < n + 1) list r (wider n list is.known) (omega (arith, here));
    each = All-push (AreTimes table k s first last) list r is.each are;
    all = λ t d m lt after early of. elim (cases_lt t n) [
      | inl less ↦ (let old = is.all t d m less after early of in (old.0, Contains-append_left list (r ∷ []) old.0 old.1, old.2))
      | inr le ↦ (r, Contains-push list r, (let z : r.stop ≡ t = omega (arith, lt, le, here) in z))
    ];
  }

  -- a stop that one never reaches
  pub below_same : (n : ℕ) (list : List TravelTimes) → AreTimesBelow table k s first last n list → IsNeverThere table k s n first last
      → AreTimesBelow table k s first last (n + 1) list
  below_same n list is never = record {
    rising = is.rising;
    known = wider n list is.known;
    each = is.each;
    all = λ t d m lt after early of. elim (cases_lt t n) [
      | inl less ↦ is.all t d m less after early of
      | inr le ↦
          let same : t ≡ n = omega (arith, lt, le) in
          absurd (subst (λ (t : ℕ). IsNeverThere table k s t first last) (sym same) never d m after early of)
    ];
  }

  -- an empty window
  pub none_at_all : last < first → AreTravelTimes table k s first last []
  none_at_all empty = record {
    rising = λ i j e ij jl. absurd (omega (arith, jl));
    known = λ i e lt. absurd (omega (arith, lt));
    each = λ i e lt. absurd (omega (arith, lt));
    all = λ t d m known after early. absurd (omega (arith, empty, after, early));
  }

  -- all stops are looked at
  pub times_all : (list : List TravelTimes) → AreTimesBelow table k s first last (stops_of table) list
      → AreTravelTimes table k s first last list
  times_all list is = record { rising = is.rising; known = is.known; each = is.each; all = is.all }
