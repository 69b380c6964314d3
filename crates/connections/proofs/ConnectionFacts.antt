-- When the departures of connections are events, and which best numbers at an event are those of a connection, by the least arrivals at the
-- event and after it.
use Rattle.std.proofs.Common.{Option, ◌≡◌, ℕ, ◌+◌, ◌<◌, ◌≤◌, List, length, Some, None, arith, refl, sym, ap, subst, inl, inr, le_refl}
use Rattle.std.proofs.lemmas.Bool.{cases_lt}
use Rattle.timetable.specs.declared.parts.Numbers.{Numbers}
use Rattle.timetable.specs.Table.{Table, stops_of}
use Rattle.timetable.specs.Journeys.{Reaches, Unbeaten, IsLeast}
use Rattle.timetable.specs.Front.{IsSooner}
use Rattle.timetable.proofs.Taken.{journey_earlier}
use Rattle.rounds.specs.Mark.{Mark, arrival_in}
use Rattle.rounds.specs.Answers.{AreRounds, ArrivesWithin}
use Rattle.rounds.specs.Events.{IsEvent}
use Rattle.rounds.proofs.EventLaws.{next_event, no_event, own_event}
use Rattle.connections.specs.Connections.{IsLast, Connects}
use Rattle.connections.specs.Found.{AreLeastAt}

-- each journey of one ride or more is one of the set at an event too, at its departure or later
pub record HasEvents (Is : ℕ → Type 0) (Of : ℕ → Numbers → Type 0) : Type 0 where
  pub own : (d : ℕ) (n : Numbers) → 1 ≤ n.rides → Of d n → (e : ℕ) × Is e × (d ≤ e) × Of e n

-- so the departure of a connection is an event
pub event_of : (Is : ℕ → Type 0) (Of : ℕ → Numbers → Type 0) → HasEvents Is Of → (d : ℕ) (n : Numbers) → Connects Of d n → Is d
event_of Is Of has d n is =
    let own = has.own d n is.ridden is.best.0 in
    let le = own.2 in
    elim (cases_lt d own.0) [
      | inl lt ↦ absurd (is.last own.0 n lt is.ridden (le_refl n.rides) (le_refl n.arrival) own.3)
      | inr ge ↦ subst (λ (x : ℕ). Is x) (let z : own.0 ≡ d = omega (arith, le, ge) in z) own.1
    ]

module _ (table : Table) (k s : ℕ) where
  pub reached_events : (t : ℕ) → HasEvents (IsEvent table s) (Reaches table 0 k s t)
  reached_events t = record {
    own = λ d n some of.
        let a = of.2 in
        let own = own_event table s d of.0 t n.arrival (omega (arith, a, some)) of.1 in
        (own.0, own.1, own.2, (of.0, own.3, of.2, of.3, of.4));
  }

  waiting : (d e r t z : ℕ) → d ≤ e → ArrivesWithin table s e r t z → ArrivesWithin table s d r t z
  waiting d e r t z le h = (h.0, journey_earlier table s d e h.0 t z le h.2 h.1, h.2, h.3)

  least_shifted : (d e r t : ℕ) (o : Option ℕ) → d ≤ e → ((x : ℕ) → d ≤ x → x < e → ¬ IsEvent table s x)
      → IsLeast (ArrivesWithin table s e r t) o → IsLeast (ArrivesWithin table s d r t) o
  least_shifted d e r t None le none l = λ x h. l x (h.0, next_event table s d e h.0 t x none h.2 h.1, h.2, h.3)
  least_shifted d e r t (Some a) le none l = (waiting d e r t a le l.0, λ x h. l.1 x (h.0, next_event table s d e h.0 t x none h.2 h.1, h.2, h.3))

  -- with no event between two moments, the least arrivals are the same
  pub shifted : (d e : ℕ) (rounds : List (List (Option Mark))) → d ≤ e → ((x : ℕ) → d ≤ x → x < e → ¬ IsEvent table s x)
      → AreLeastAt table k s e rounds → AreLeastAt table k s d rounds
  shifted d e rounds le none are r t some few known = least_shifted d e r t (arrival_in rounds r t) le none (are r t some few known)

  no_least : (d r t : ℕ) (o : Option ℕ) → o ≡ None → ((x : ℕ) → d ≤ x → ¬ IsEvent table s x) → IsLeast (ArrivesWithin table s d r t) o
  no_least d r t o e none = subst (λ o. IsLeast (ArrivesWithin table s d r t) o) (sym e) (λ x h. no_event table s d h.0 t x none h.2 h.1)

  -- with no event from a moment on, there are none
  pub none_later : (d : ℕ) (rounds : List (List (Option Mark))) → ((r t : ℕ) → arrival_in rounds r t ≡ None) → ((x : ℕ) → d ≤ x → ¬ IsEvent table s x)
      → AreLeastAt table k s d rounds
  none_later d rounds empty none r t some few known = no_least d r t (arrival_in rounds r t) (empty r t) none

  pub least_of : (d : ℕ) (rounds : List (List (Option Mark))) → AreRounds table s d k rounds → AreLeastAt table k s d rounds
  least_of d rounds are r t some few known = are.least r t some few known

  module _ (e t : ℕ) (n : Numbers) (best : Unbeaten (Reaches table 0 k s t e) n) (ridden : 1 ≤ n.rides) where
    reached : ArrivesWithin table s e n.rides t n.arrival
    reached =
        let a = best.0.2 in
        (best.0.0, best.0.1, (let z : 1 ≤ length best.0.0 = omega (arith, a, ridden) in z), (let z : length best.0.0 ≤ n.rides = omega (arith, a) in z))

    no_earlier : (x : ℕ) → ArrivesWithin table s e n.rides t x → n.arrival ≤ x
    no_earlier x h = elim (cases_lt x n.arrival) [
      | inl lt ↦
          let few = h.3 in
          let most = best.0.4 in
          let m : Numbers = record { arrival = x; rides = length h.0 } in
          absurd (best.1 m (h.0, h.1, refl, (omega arith), (let z : length h.0 ≤ k = omega (arith, few, most) in z)) ((let z : x ≤ n.arrival = omega (arith, lt) in z), few, inl lt))
      | inr le ↦ le
    ]

    -- its arrival is the least with as many rides
    least_is : (o : Option ℕ) → IsLeast (ArrivesWithin table s e n.rides t) o → o ≡ Some n.arrival
    least_is None l = absurd (l n.arrival reached)
    least_is (Some a) l =
        let x = l.1 n.arrival reached in
        let y = no_earlier a l.0 in
        ap (λ (a : ℕ). Some a) (let z : a ≡ n.arrival = omega (arith, x, y) in z)

    -- a journey that begins later arrives within as many rides from the next moment on
    from_next : (later : ℕ) (m : Numbers) → e < later → 1 ≤ m.rides → m.rides ≤ n.rides → Reaches table 0 k s t later m
        → ArrivesWithin table s (e + 1) n.rides t m.arrival
    from_next later m lt some few of =
        let a = of.2 in
        let one : 1 ≤ length of.0 = omega (arith, a, some) in
        (of.0, journey_earlier table s (e + 1) later of.0 t m.arrival (omega (arith, lt)) one of.1, one, (let z : length of.0 ≤ n.rides = omega (arith, a, few) in z))

    last_if : (o : Option ℕ) → IsLeast (ArrivesWithin table s (e + 1) n.rides t) o → IsSooner (Some n.arrival) o → IsLast (Reaches table 0 k s t) e n
    last_if None l sooner = λ later m lt some few le of. l m.arrival (from_next later m lt some few of)
    last_if (Some b) l sooner = λ later m lt some few le of.
        let x = l.1 m.arrival (from_next later m lt some few of) in
        let w : ⊥ = omega (arith, x, le, sooner) in w

    sooner_if : (o : Option ℕ) → IsLeast (ArrivesWithin table s (e + 1) n.rides t) o → IsLast (Reaches table 0 k s t) e n → IsSooner (Some n.arrival) o
    sooner_if None l last = tt
    sooner_if (Some b) l last = elim (cases_lt n.arrival b) [
      | inl lt ↦ lt
      | inr le ↦
          let few = l.0.3 in
          let most = best.0.4 in
          let m : Numbers = record { arrival = b; rides = length l.0.0 } in
          absurd (last (e + 1) m (omega arith) l.0.2 few le (l.0.0, l.0.1, refl, (omega arith), (let z : length l.0.0 ≤ k = omega (arith, few, most) in z)))
    ]

    module _ (rounds kept : List (List (Option Mark))) (known : t < stops_of table) (now : AreLeastAt table k s e rounds)
        (later : AreLeastAt table k s (e + 1) kept) where
      -- if one was there later with as many rides, it is no connection, and else it is one
      pub connects_if : IsSooner (arrival_in rounds n.rides t) (arrival_in kept n.rides t) → Connects (Reaches table 0 k s t) e n
      connects_if sooner = record {
        ridden = ridden;
        best = best;
        last = last_if (arrival_in kept n.rides t) (later n.rides t ridden best.0.4 known)
            (subst (λ (o : Option ℕ). IsSooner o (arrival_in kept n.rides t))
            (least_is (arrival_in rounds n.rides t) (now n.rides t ridden best.0.4 known)) sooner);
      }

      pub lowered_if : IsLast (Reaches table 0 k s t) e n → IsSooner (arrival_in rounds n.rides t) (arrival_in kept n.rides t)
      lowered_if last =
          subst (λ (o : Option ℕ). IsSooner o (arrival_in kept n.rides t))
          (sym (least_is (arrival_in rounds n.rides t) (now n.rides t ridden best.0.4 known)))
          (sooner_if (arrival_in kept n.rides t) (later n.rides t ridden best.0.4 known) last)
