-- The least arrivals over the seconds of a window: they change only at events.
use Rattle.std.proofs.Common.{Option, Some, None, ◌≡◌, ℕ, ◌+◌, ◌<◌, ◌≤◌, ◌⊎◌, min, option_map, unwrap_or, List, [], length, get_or, arith, refl, sym, ◌∙◌, ap, subst, inl, inr, le_refl, eq-or-lt_of_le}
use Rattle.std.proofs.lemmas.Bool.{cases_lt}
use Rattle.std.proofs.lemmas.List.Kept.{AllPairs-from_increasing}
use Rattle.std.proofs.lemmas.List.Elements.{at_from_Contains, Contains-get_or}
use Rattle.timetable.specs.declared.parts.Call.{Call}
use Rattle.timetable.specs.declared.parts.TheConstants.{LATEST_MOMENT}
use Rattle.timetable.specs.Table.{Table, IsTable}
use Rattle.timetable.specs.Journeys.{IsLeast, call_at, departs, foot, from}
use Rattle.timetable.specs.Front.{IsSooner}
use Rattle.timetable.proofs.Legs.{there, stop_known_at}
use Rattle.timetable.proofs.Taken.{the_some, journey_earlier}
use Rattle.rounds.specs.Answers.{ArrivesWithin}
use Rattle.rounds.specs.Events.{AreEvents, IsEvent}
use Rattle.rounds.proofs.EventLaws.{next_event, no_event}
use Rattle.reaching.specs.declared.steps.Step.{Step}
use Rattle.reaching.specs.Steps.{AddsStep, AreSteps, Covers, IsAfter, IsUpTo, LiesAt, SplitsAt, arrival_at}
use Rattle.reaching.proofs.StepFacts.{arrival_at-none, steps_from, steps_none}

-- ---- events

-- an event is early enough for a run
pub event_early : (table : Table) (s e : ℕ) → IsTable table → IsEvent table s e → e ≤ LATEST_MOMENT
event_early table s e valid event =
    let leg = event.0 in
    let c = there (call_at table leg.instance leg.board) event.1.boards in
    let known = stop_known_at table leg.instance leg.board c.0 valid c.1 in
    let departure : departs table leg ≡ c.0.departure = ap (λ (o : Option Call). unwrap_or (option_map (λ c. c.departure) o) 0) c.1 in
    let w = the_some (foot table s (from table leg)) (λ w. e + w ≡ departs table leg) event.2 in
    omega (arith, w.2, departure, known.early)

module _ (table : Table) (s : ℕ) (moments : List ℕ) (are : AreEvents table s moments) where
  pub event_at : (i : ℕ) → i < length moments → IsEvent table s (get_or moments i 0)
  event_at i in' = are.each (get_or moments i 0) (Contains-get_or moments i 0 in')

  pub rising_le : (i j : ℕ) → i ≤ j → j < length moments → get_or moments i 0 ≤ get_or moments j 0
  rising_le i j le in' = elim (eq-or-lt_of_le le) [
    | inl e ↦ subst (λ (x : ℕ). get_or moments i 0 ≤ get_or moments x 0) e (le_refl (get_or moments i 0))
    | inr lt ↦
        let less = AllPairs-from_increasing moments are.rising i j 0 lt in' in
        let z : get_or moments i 0 ≤ get_or moments j 0 = omega (arith, less) in z
  ]

  -- from a moment after the first n events on, there is none before the next
  none_before : (n d x : ℕ) → n < length moments → IsAfter moments n d → d ≤ x → x < get_or moments n 0 → ¬ IsEvent table s x
  none_before n d x in' after le lt is =
      let at = at_from_Contains moments x (are.all x is) in
      let e = at.2 0 in
      elim (cases_lt at.0 n) [
        | inl less ↦ (let b = after at.0 less in let z : ⊥ = omega (arith, b, e, le) in z)
        | inr more ↦ (let b = rising_le n at.0 more at.1 in let z : ⊥ = omega (arith, b, e, lt) in z)
      ]

  -- and after all events there is none
  none_after : (n d x : ℕ) → length moments ≤ n → IsAfter moments n d → d ≤ x → ¬ IsEvent table s x
  none_after n d x past after le is =
      let at = at_from_Contains moments x (are.all x is) in
      let e = at.2 0 in
      let i = at.1 in
      let b = after at.0 (omega (arith, i, past)) in
      let z : ⊥ = omega (arith, b, e, le) in z

-- ---- least arrivals

waiting : (table : Table) (k s t d e z : ℕ) → d ≤ e → ArrivesWithin table s e k t z → ArrivesWithin table s d k t z
waiting table k s t d e z le h = (h.0, journey_earlier table s d e h.0 t z le h.2 h.1, h.2, h.3)

least_shifted : (table : Table) (k s t d e : ℕ) (o : Option ℕ) → d ≤ e → ((x : ℕ) → d ≤ x → x < e → ¬ IsEvent table s x)
    → IsLeast (ArrivesWithin table s e k t) o → IsLeast (ArrivesWithin table s d k t) o
least_shifted table k s t d e None le none l = λ x h. l x (h.0, next_event table s d e h.0 t x none h.2 h.1, h.2, h.3)
least_shifted table k s t d e (Some a) le none l =
    (waiting table k s t d e a le l.0, λ x h. l.1 x (h.0, next_event table s d e h.0 t x none h.2 h.1, h.2, h.3))

no_arrival : (table : Table) (k s t d : ℕ) → ((x : ℕ) → d ≤ x → ¬ IsEvent table s x) → IsLeast (ArrivesWithin table s d k t) None
no_arrival table k s t d none = λ x h. no_event table s d h.0 t x none h.2 h.1

sooner_or_not : (a b : Option ℕ) → IsSooner a b ⊎ (IsSooner a b → ⊥)
sooner_or_not None b = inr (λ h. h)
sooner_or_not (Some x) None = inl tt
sooner_or_not (Some x) (Some y) = elim (cases_lt x y) [ inl lt ↦ inl lt | inr le ↦ inr (λ lt. (let z : ⊥ = omega (arith, lt, le) in z)) ]

-- of two arrivals the later of which is still attained, the least is sooner or the same
same_arrival : (Of : ℕ → Type 0) (now before : Option ℕ) → IsLeast Of now → ((z : ℕ) → before ≡ Some z → Of z) → (IsSooner now before → ⊥)
    → now ≡ before
same_arrival Of None None l attained none = refl
same_arrival Of None (Some z) l attained none = absurd (l z (attained z refl))
same_arrival Of (Some a) None l attained none = absurd (none tt)
same_arrival Of (Some a) (Some z) l attained none = elim (cases_lt a z) [
  | inl lt ↦ absurd (none lt)
  | inr le ↦ (let least = l.1 z (attained z refl) in ap (λ (n : ℕ). Some n) (let e : a ≡ z = omega (arith, least, le) in e))
]

-- ---- the steps of a stop

-- the events from n on are looked at; `before` is the least arrival at the next of them
pub record HasSteps (table : Table) (k s t last : ℕ) (moments : List ℕ) (n : ℕ) (before : Option ℕ) (steps : List Step) : Type 0 where
  pub sound : (e : ℕ) → IsUpTo moments n e → e ≤ last → AreSteps e last steps
  pub least : (d : ℕ) → d ≤ last → IsAfter moments n d → IsLeast (ArrivesWithin table s d k t) (arrival_at steps d)
  pub flat : (d : ℕ) → d ≤ last → IsUpTo moments n d → arrival_at steps d ≡ before
  pub attained : (d z : ℕ) → IsUpTo moments n d → before ≡ Some z → ArrivesWithin table s d k t z

module _ (table : Table) (k s t last : ℕ) (moments : List ℕ) (are : AreEvents table s moments) where
  -- with no event within the window and none after it, or only that after it to come
  pub has_none : (past : ℕ) (before : Option ℕ) (steps : List Step) → past ≤ length moments → SplitsAt moments last past
      → before ≡ None → steps ≡ [] → HasSteps table k s t last moments (min (length moments) (past + 1)) before steps
  has_none past before steps le splits none empty =
      subst (λ (l : List Step). HasSteps table k s t last moments (min (length moments) (past + 1)) before l) (sym empty) (record {
        sound = λ e _ _. steps_none e last;
        least = λ d early after. subst (λ (o : Option ℕ). IsLeast (ArrivesWithin table s d k t) o) (sym (arrival_at-none d))
            (elim (cases_lt past (length moments)) [
              | inl lt ↦
                  let a = after past (omega (arith, lt)) in
                  let b = splits.1 past (le_refl past) lt in
                  absurd (let z : ⊥ = omega (arith, a, b, early) in z)
              | inr more ↦ no_arrival table k s t d
                  (λ x le. none_after table s moments are (min (length moments) (past + 1)) d x (omega (arith, more)) after le)
            ]);
        flat = λ d _ _. arrival_at-none d ∙ sym none;
        attained = λ d z _ some. absurd (let e : None ≡ Some z = sym none ∙ some in cc e);
      })

  module _ (i : ℕ) (in' : i < length moments) (now before : Option ℕ) (old new : List Step)
      (least : IsLeast (ArrivesWithin table s (get_or moments i 0) k t) now) (has : HasSteps table k s t last moments (i + 1) before old)
      (adds : AddsStep (min (get_or moments i 0) last) now before old new) where
    -- what is no later than the event is no later than the others
    on : (d : ℕ) → d ≤ get_or moments i 0 → IsUpTo moments (i + 1) d
    on d le j after lt =
        let up = rising_le table s moments are i j (omega (arith, after)) lt in
        let z : d ≤ get_or moments j 0 = omega (arith, le, up) in z

    here : (d : ℕ) → IsUpTo moments i d → d ≤ get_or moments i 0
    here d up = up i (le_refl i) in'

    same : (IsSooner now before → ⊥) → now ≡ before
    same none = same_arrival (ArrivesWithin table s (get_or moments i 0) k t) now before least
        (λ z some. has.attained (get_or moments i 0) z (on (get_or moments i 0) (le_refl (get_or moments i 0))) some) none

    -- up to the event one is there at its arrival
    upto : (d : ℕ) → d ≤ last → d ≤ get_or moments i 0 → arrival_at new d ≡ now
    upto d early le = elim (sooner_or_not now before) [
      | inl sooner ↦ (adds.sooner sooner).upto d (omega (arith, early, le))
      | inr none ↦ ap (λ (l : List Step). arrival_at l d) (adds.same none) ∙ has.flat d early (on d le) ∙ sym (same none)
    ]

    -- and after it as before
    past : (d : ℕ) → d ≤ last → get_or moments i 0 < d → arrival_at new d ≡ arrival_at old d
    past d early lt = elim (sooner_or_not now before) [
      | inl sooner ↦ (adds.sooner sooner).past d (omega (arith, lt))
      | inr none ↦ ap (λ (l : List Step). arrival_at l d) (adds.same none)
    ]

    sound : (e : ℕ) → IsUpTo moments i e → e ≤ last → AreSteps e last new
    sound e up early = elim (sooner_or_not now before) [
      | inl sooner ↦
          let u : ℕ = min (get_or moments i 0) last in
          let le = here e up in
          steps_from u e last new (omega (arith, le, early))
          ((adds.sooner sooner).sound last (omega arith) (has.sound u (on u (omega arith)) (omega arith)))
      | inr none ↦ subst (λ (l : List Step). AreSteps e last l) (sym (adds.same none)) (has.sound e (on e (here e up)) early)
    ]

    still : (d : ℕ) → IsAfter moments i d → get_or moments i 0 < d → IsAfter moments (i + 1) d
    still d after lt j less = elim (cases_lt j i) [
      | inl before ↦ after j before
      | inr le ↦ (let e : i ≡ j = omega (arith, less, le) in subst (λ (x : ℕ). get_or moments x 0 < d) e lt)
    ]

    attained : (d z : ℕ) → d ≤ get_or moments i 0 → (o : Option ℕ) → IsLeast (ArrivesWithin table s (get_or moments i 0) k t) o
        → o ≡ Some z → ArrivesWithin table s d k t z
    attained d z le None l some = absurd (cc some)
    attained d z le (Some a) l some =
        waiting table k s t d (get_or moments i 0) z le (subst (λ (x : ℕ). ArrivesWithin table s (get_or moments i 0) k t x) (cc some) l.0)

    -- one event more
    pub has_more : HasSteps table k s t last moments i now new
    has_more = record {
      sound = sound;
      least = λ d early after. elim (cases_lt (get_or moments i 0) d) [
        | inl lt ↦ subst (λ (o : Option ℕ). IsLeast (ArrivesWithin table s d k t) o) (sym (past d early lt))
            (has.least d early (still d after lt))
        | inr le ↦ subst (λ (o : Option ℕ). IsLeast (ArrivesWithin table s d k t) o) (sym (upto d early le))
            (least_shifted table k s t d (get_or moments i 0) now le
            (λ x more lt. none_before table s moments are i d x in' after more lt) least)
      ];
      flat = λ d early up. upto d early (here d up);
      attained = λ d z up some. attained d z (here d up) now least some;
    }

  -- all events of the window are looked at
  pub covers : (n first : ℕ) (before : Option ℕ) (steps : List Step) → first ≤ last → LiesAt moments n first
      → HasSteps table k s t last moments n before steps → Covers table k s t first last steps
  covers n first before steps some lies has = record {
    sound = has.sound first lies.1 some;
    least = λ d after early. has.least d early
        (λ i lt. (let b = lies.0 i lt in let z : get_or moments i 0 < d = omega (arith, b, after) in z));
  }
