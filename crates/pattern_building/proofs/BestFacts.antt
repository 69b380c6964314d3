-- The pairs that the rounds at a moment give are those of the best journeys at that moment.
use Rattle.std.proofs.Common.{Option, ◌≡◌, ℕ, zero, suc, ◌-◌, ◌<◌, ◌≤◌, List, length, Some, None, IsSomeAnd, option_map, arith, refl, sym, ◌∙◌, ap, subst, inl, inr, eq-or-lt_of_le}
use Rattle.std.proofs.lemmas.Bool.{cases_lt}
use Rattle.std.proofs.lemmas.List.{length-map}
use Rattle.timetable.specs.declared.parts.Leg.{Leg}
use Rattle.timetable.specs.declared.parts.Numbers.{Numbers}
use Rattle.timetable.specs.Table.{Table, stops_of}
use Rattle.timetable.specs.Journeys.{Journey, Reaches, Beats, Unbeaten, IsLeast, pattern, from, to}
use Rattle.timetable.specs.Front.{IsSooner}
use Rattle.rounds.specs.Mark.{Mark, mark_in, arrival_in, moment_in}
use Rattle.rounds.specs.Answers.{AreRounds, ArrivesWithin}
use Rattle.pattern_tree.specs.Forest.{Step, Pair}
use Rattle.pattern_tree.specs.Completeness.{IsPathOf, Earned}
use Rattle.pattern_building.specs.RoundPairs.{Gives, UpToRound, AddsGiven, HasGiven, CompleteAt}
use Rattle.pattern_building.specs.Lowered.{Lowered, AreLater}
use Rattle.pattern_building.proofs.LaterFacts.{sooner_or_not, arrival_kept, path_later}

the_mark : (o : Option Mark) (P : Mark → Type 0) → IsSomeAnd o P → (m : Mark) × (o ≡ Some m) × P m
the_mark None P h = absurd h
the_mark (Some m) P h = (m, refl, h)

module _ (table : Table) (s k d : ℕ) (rounds : List (List (Option Mark))) (are : AreRounds table s d k rounds) where
  arrival_of : (r t : ℕ) (m : Mark) → mark_in rounds r t ≡ Some m → arrival_in rounds r t ≡ Some m.arrival
  arrival_of r t m e = ap (λ o. option_map (λ (m : Mark). m.arrival) o) e

  late : (o : Option ℕ) (r t a z : ℕ) → IsLeast (ArrivesWithin table s d r t) o → ArrivesWithin table s d r t z → z ≤ a → IsSooner (Some a) o → ⊥
  late None r t a z l h le sooner = l z h
  late (Some x) r t a z l h le sooner = let k = l.1 z h in let e : ⊥ = omega (arith, k, le, sooner) in e

  -- if a round is sooner, its numbers are best
  best_of : (r t : ℕ) (m : Mark) → 1 ≤ r → r ≤ k → t < stops_of table → mark_in rounds r t ≡ Some m
      → IsSooner (arrival_in rounds r t) (arrival_in rounds (r - 1) t) → Unbeaten (Reaches table 1 k s t d) (record { arrival = m.arrival; rides = r })
  best_of r t m some few in' e sooner =
      let j = are.attained r t m some few in' e sooner in
      let l : IsLeast (ArrivesWithin table s d r t) (Some m.arrival) = subst (λ o. IsLeast (ArrivesWithin table s d r t) o) (arrival_of r t m e) (are.least r t some few in') in
      let sooner' : IsSooner (Some m.arrival) (arrival_in rounds (r - 1) t) = subst (λ o. IsSooner o (arrival_in rounds (r - 1) t)) (arrival_of r t m e) sooner in
      ((j.0, j.1, j.2, some, few), λ n reaches beats. beaten l sooner' n reaches beats) where
        beaten : IsLeast (ArrivesWithin table s d r t) (Some m.arrival) → IsSooner (Some m.arrival) (arrival_in rounds (r - 1) t)
            → (n : Numbers) → Reaches table 1 k s t d n → Beats n (record { arrival = m.arrival; rides = r }) → ⊥
        beaten l sooner n reaches beats =
            let a = reaches.2 in let b = reaches.3 in let f = beats.1 in
            elim beats.2 [
              | inl lt ↦
                  let k = l.1 n.arrival (reaches.0, reaches.1, (let z : 1 ≤ length reaches.0 = omega (arith, a, b) in z), (let z : length reaches.0 ≤ r = omega (arith, a, f) in z)) in
                  let z : ⊥ = omega (arith, k, lt) in z
              | inr fewer ↦
                  let one : 1 ≤ r - 1 = omega (arith, fewer, b) in
                  let few' : r - 1 ≤ k = omega (arith, few) in
                  late (arrival_in rounds (r - 1) t) (r - 1) t m.arrival n.arrival (are.least (r - 1) t one few' in')
                  (reaches.0, reaches.1, (let z : 1 ≤ length reaches.0 = omega (arith, a, b) in z), (let z : length reaches.0 ≤ r - 1 = omega (arith, a, fewer) in z))
                  beats.0 sooner
            ]

  -- the best numbers are those of a round that is sooner
  round_of : (t : ℕ) (n : Numbers) → t < stops_of table → Unbeaten (Reaches table 1 k s t d) n
      → (m : Mark) × (mark_in rounds n.rides t ≡ Some m) × (m.arrival ≡ n.arrival) × IsSooner (arrival_in rounds n.rides t) (arrival_in rounds (n.rides - 1) t)
  round_of t n in' is = go (mark_in rounds n.rides t) refl where
    some : 1 ≤ length is.0.0
    some = let a = is.0.2 in let b = is.0.3 in omega (arith, a, b)

    all : length is.0.0 ≤ n.rides
    all = let a = is.0.2 in omega (arith, a)

    least : IsLeast (ArrivesWithin table s d n.rides t) (arrival_in rounds n.rides t)
    least = are.least n.rides t is.0.3 is.0.4 in'

    same : (a : ℕ) → IsLeast (ArrivesWithin table s d n.rides t) (Some a) → a ≡ n.arrival
    same a l = elim (eq-or-lt_of_le (l.1 n.arrival (is.0.0, is.0.1, some, all))) [
      | inl e ↦ e
      | inr lt ↦
          let m : Numbers = record { arrival = a; rides = length l.0.0 } in
          let f = l.0.3 in let g = is.0.4 in
          absurd (is.1 m (l.0.0, l.0.1, refl, l.0.2, (let z : length l.0.0 ≤ k = omega (arith, f, g) in z)) ((let z : a ≤ n.arrival = omega (arith, lt) in z), f, inl lt))
    ]

    earlier : (q : ℕ) (o : Option ℕ) → suc q < n.rides → IsLeast (ArrivesWithin table s d (suc q) t) o → IsSooner (Some n.arrival) o
    earlier q None lt l = tt
    earlier q (Some x) lt l = elim (cases_lt n.arrival x) [
      | inl sooner ↦ sooner
      | inr le ↦
          let m : Numbers = record { arrival = x; rides = length l.0.0 } in
          let f = l.0.3 in let g = is.0.4 in
          absurd (is.1 m (l.0.0, l.0.1, refl, l.0.2, (let z : length l.0.0 ≤ k = omega (arith, f, g, lt) in z))
          (le, (let z : length l.0.0 ≤ n.rides = omega (arith, f, lt) in z), inr (let z : length l.0.0 < n.rides = omega (arith, f, lt) in z)))
    ]

    fewer : (q : ℕ) → q < n.rides → IsSooner (Some n.arrival) (arrival_in rounds q t)
    fewer zero lt = tt
    fewer (suc q) lt = earlier q (arrival_in rounds (suc q) t) lt (are.least (suc q) t (let z : 1 ≤ suc q = omega arith in z) (let g = is.0.4 in let z : suc q ≤ k = omega (arith, g, lt) in z) in')

    go : (o : Option Mark) → mark_in rounds n.rides t ≡ o
        → (m : Mark) × (mark_in rounds n.rides t ≡ Some m) × (m.arrival ≡ n.arrival) × IsSooner (arrival_in rounds n.rides t) (arrival_in rounds (n.rides - 1) t)
    go None e =
        let l : IsLeast (ArrivesWithin table s d n.rides t) None = subst (λ o. IsLeast (ArrivesWithin table s d n.rides t) (option_map (λ (m : Mark). m.arrival) o)) e least in
        absurd (l n.arrival (is.0.0, is.0.1, some, all))
    go (Some m) e =
        let l : IsLeast (ArrivesWithin table s d n.rides t) (Some m.arrival) = subst (λ o. IsLeast (ArrivesWithin table s d n.rides t) (option_map (λ (m : Mark). m.arrival) o)) e least in
        let a = same m.arrival l in (
          m,
          e,
          a,
          subst (λ o. IsSooner o (arrival_in rounds (n.rides - 1) t)) (sym (arrival_of n.rides t m e ∙ ap (λ x. Some x) a))
              (fewer (n.rides - 1) (let b = is.0.3 in omega (arith, b))),
        )

  -- a pair that is given is one of a best journey
  given_best : (r : ℕ) (p : Pair) → 1 ≤ r → r ≤ k → p.1 < stops_of table → Gives rounds r p
      → (n : Numbers) × Unbeaten (Reaches table 1 k s p.1 d) n × IsPathOf table s p.1 d n p.0
  given_best r p some few in' gives =
      let mark = the_mark (mark_in rounds r p.1) (λ m. p.0 ≡ m.path) gives.1 in
      let m = mark.0 in
      let j = are.attained r p.1 m some few in' mark.1 gives.0 in (
        record { arrival = m.arrival; rides = r },
        best_of r p.1 m some few in' mark.1 gives.0,
        (j.0, j.1, j.2, j.3 ∙ sym mark.2),
      )

  -- its path has as many rides
  pub given_rides : (r : ℕ) (p : Pair) → 1 ≤ r → r ≤ k → p.1 < stops_of table → Gives rounds r p → length p.0 ≡ r
  given_rides r p some few in' gives =
      let mark = the_mark (mark_in rounds r p.1) (λ m. p.0 ≡ m.path) gives.1 in
      let j = are.attained r p.1 mark.0 some few in' mark.1 gives.0 in
      let path : pattern table j.0 ≡ p.0 = j.3 ∙ sym mark.2 in
      sym (ap (λ (q : List Step). length q) path) ∙ length-map {B = Step} j.0 (λ leg. (from table leg, to table leg)) ∙ j.2

  -- with the pairs that are given, all are earned
  pub earned_given : (old new : List Pair) → AddsGiven rounds (UpToRound k (stops_of table)) old new → Earned table k s old → Earned table k s new
  earned_given old new adds earned = λ path t h. elim (adds (path, t) h) [
    | inl was ↦ earned path t was
    | inr given ↦ let b = given_best given.0 (path, t) given.1.0 given.1.1 given.1.2 given.2 in (d, b.0, b.1, b.2)
  ]

  pub earned_up : (n : ℕ) (old new : List Pair) → n ≡ stops_of table → AddsGiven rounds (UpToRound k n) old new → Earned table k s old → Earned table k s new
  earned_up n old new same adds earned = earned_given old new (subst (λ (m : ℕ). AddsGiven rounds (UpToRound k m) old new) same adds) earned

  -- with all pairs that are given, but those with an arrival that a later departure has too, the content is complete at this moment
  pub complete_given : (content : List Pair) (kept : List (List (Option Mark))) (before : List (List (Option ℕ)))
      → ((legs : List Leg) (t z : ℕ) → 1 ≤ length legs → Journey table s d legs t z → t < stops_of table)
      → ((r t : ℕ) → moment_in before r t ≡ arrival_in kept r t)
      → AreLater table k s d content kept → HasGiven rounds (Lowered rounds before (UpToRound k (stops_of table))) content
      → CompleteAt table k s d content
  complete_given content kept before inside told later has t n is =
      let h = is.0 in
      let some : 1 ≤ length h.0 = (let a = h.2 in let b = h.3 in omega (arith, a, b)) in
      let in' = inside h.0 t n.arrival some h.1 in
      let seen : UpToRound k (stops_of table) n.rides t = (h.3, h.4, in') in
      let m = round_of t n in' is in
      let j = are.attained n.rides t m.0 h.3 h.4 in' m.1 m.3 in
      let gives : Gives rounds n.rides (m.0.path, t) = (m.3, subst (λ (o : Option Mark). IsSomeAnd o (λ x. m.0.path ≡ x.path)) (sym m.1) refl) in
      let arrival : arrival_in rounds n.rides t ≡ Some n.arrival = arrival_of n.rides t m.0 m.1 ∙ ap (λ x. Some x) m.2 in
      elim (sooner_or_not (arrival_in rounds n.rides t) (moment_in before n.rides t)) [
        | inl sooner ↦ (
          m.0.path,
          (j.0, subst (λ z. Journey table s d j.0 t z) m.2 j.1, j.2, j.3),
          has (m.0.path, t) (n.rides, (seen, sooner), gives),
        )
        | inr not_sooner ↦
            let least = subst (λ (o : Option ℕ). IsLeast (ArrivesWithin table s d n.rides t) o) arrival (are.least n.rides t h.3 h.4 in') in
            let same = arrival_kept table s k content d n.rides t n.arrival kept later seen least (λ sooner.
            not_sooner (subst (λ (o : Option ℕ). IsSooner o (moment_in before n.rides t)) (sym arrival)
            (subst (λ (o : Option ℕ). IsSooner (Some n.arrival) o) (sym (told n.rides t)) sooner))) in
            path_later table s k content d t n is (later n.rides t n.arrival seen same)
      ]
