-- The last of the journeys with the same numbers, event by event.
use Rattle.std.proofs.Common.{Option, ◌≡◌, ℕ, ◌+◌, ◌<◌, ◌≤◌, zero, suc, List, [], ◌∷◌, length, map, get_or, option_map, unwrap_or, slice_set, Some, None, IfSome, IfNone, arith, refl, sym, ◌∙◌, ap, subst, inl, inr, le_trans, le_of_lt}
use Rattle.std.proofs.lemmas.Bool.{cases_lt, cases_eq}
use Rattle.std.proofs.lemmas.List.{get_or_default, get_or-set_same, get_or-set_other}
use Rattle.std.proofs.lemmas.List.Kept.{AllPairs-from_increasing}
use Rattle.timetable.specs.declared.parts.Numbers.{Numbers}
use Rattle.timetable.specs.declared.parts.Call.{Call}
use Rattle.timetable.specs.declared.parts.TheConstants.{LATEST_MOMENT}
use Rattle.timetable.specs.Table.{Table, IsTable}
use Rattle.timetable.specs.Journeys.{call_at, from, departs, foot, Journey, Reaches, Unbeaten}
use Rattle.timetable.proofs.Legs.{there, stop_known_at}
use Rattle.timetable.proofs.Taken.{the_some, journey_earlier}
use Rattle.rounds.specs.declared.scratch.Scratch.{Scratch}
use Rattle.rounds.specs.Scratch.{IsAlike}
use Rattle.rounds.specs.Events.{IsEvent, AreEvents}
use Rattle.rounds.proofs.EventLaws.{own_event}
use Rattle.pattern_query.specs.Answer.{PointData, numbers, IsJourney}
use Rattle.pattern_query.proofs.LastSteps.{best_later, ridden_later}
use Rattle.scanned_journeys.specs.Latest.{IsLastLike}

-- an event is early enough for a run
pub event_early : (table : Table) (s e : ℕ) → IsTable table → IsEvent table s e → e ≤ LATEST_MOMENT
event_early table s e valid event =
    let leg = event.0 in
    let c = there (call_at table leg.instance leg.board) event.1.boards in
    let known = stop_known_at table leg.instance leg.board c.0 valid c.1 in
    let departure : departs table leg ≡ c.0.departure = ap (λ (o : Option Call). unwrap_or (option_map (λ c. c.departure) o) 0) c.1 in
    let w = the_some (foot table s (from table leg)) (λ w. e + w ≡ departs table leg) event.2 in
    omega (arith, w.2, departure, known.early)

-- q is a journey at d with the numbers of p, and the first n events are no later than its departure
pub record IsLikeSince (table : Table) (s t d : ℕ) (events : List ℕ) (n : ℕ) (p q : PointData) : Type 0 where
  pub is : IsJourney table s t d q
  pub alike : numbers q ≡ numbers p
  pub passed : (i : ℕ) → i < n → get_or events i 0 ≤ q.departure

pub rides_alike : (p q : PointData) → numbers q ≡ numbers p → q.rides ≡ p.rides
rides_alike p q e = ap (λ (n : Numbers). n.rides) e

module _ (table : Table) (k s t d : ℕ) (p : PointData) (is : IsJourney table s t d p) (best : Unbeaten (Reaches table 0 k s t d) (numbers p)) where
  -- on foot one can't leave later
  pub last_on_foot : p.rides ≡ 0 → IsLastLike table k s t d p p
  last_on_foot none = record {
    is = is;
    alike = refl;
    latest = λ e of. elim (cases_lt p.departure e) [
      | inl lt ↦
          let after : d < e = (let a = is.after in omega (arith, a, lt)) in
          let some = ridden_later table k s t d e (numbers p) after best.1 of of.0 of.1 of.2 in
          let count = of.2 in
          absurd (omega (arith, some, count, none))
      | inr le ↦ le
    ];
  }

  module _ (events : List ℕ) (are : AreEvents table s events) (n : ℕ) (q : PointData) (like : IsLikeSince table s t d events n p q) (ridden : 1 ≤ p.rides) where
    -- one who could leave later could do so at an event that isn't passed
    later_event : (e : ℕ) → q.departure < e → Reaches table 0 k s t e (numbers q) → (i : ℕ) × (n ≤ i) × (i < length events) × Reaches table 0 k s t (get_or events i 0) (numbers q)
    later_event e lt of =
        let count = of.2 in
        let rides = rides_alike p q like.alike in
        let some : 1 ≤ length of.0 = omega (arith, count, rides, ridden) in
        let own = own_event table s e of.0 t q.arrival some of.1 in
        let in' = are.all own.0 own.1 in
        let x : get_or events in'.0 0 ≡ own.0 = get_or_default events in'.0 0 own.0 in'.1 ∙ in'.2 in
        let after = own.2 in (
          in'.0,
          elim (cases_lt in'.0 n) [
            | inl before ↦ absurd (let passed = like.passed in'.0 before in omega (arith, passed, x, after, lt))
            | inr le ↦ le
          ],
          in'.1,
          (of.0, subst (λ (x : ℕ). Journey table s x of.0 t q.arrival) (sym x) own.3, of.2, of.3, of.4),
        )

    -- all events are passed
    pub last_passed : length events ≤ n → IsLastLike table k s t d p q
    last_passed all = record {
      is = like.is;
      alike = like.alike;
      latest = λ e of. elim (cases_lt q.departure e) [
        | inl lt ↦ let later = later_event e lt of in absurd (let from = later.1 in let within = later.2 in omega (arith, from, within, all))
        | inr le ↦ le
      ];
    }

    module _ (within : n < length events) (event : ℕ) (here : event ≡ get_or events n 0) (later : q.departure < event) where
      since : d < event
      since = let a = like.is.after in omega (arith, a, later)

      best_q : Unbeaten (Reaches table 0 k s t d) (numbers q)
      best_q = subst (λ (m : Numbers). Unbeaten (Reaches table 0 k s t d) m) (sym like.alike) best

      -- the numbers aren't among the best at the next event
      pub last_here : ¬ Unbeaten (Reaches table 0 k s t event) (numbers q) → IsLastLike table k s t d p q
      last_here none = record {
        is = like.is;
        alike = like.alike;
        latest = λ e of. elim (cases_lt q.departure e) [
          | inl lt ↦
              let x = later_event e lt of in
              let count = of.2 in
              let rides = rides_alike p q like.alike in
              let reaches : Reaches table 0 k s t event (numbers q) =
              (x.3.0, journey_earlier table s event (get_or events x.0 0) x.3.0 t q.arrival (rises x.0 x.1 x.2) (let c = x.3.2 in omega (arith, c, rides, ridden)) x.3.1, x.3.2, x.3.3, x.3.4) in
              absurd (none (best_later table k s t d event (numbers q) since best_q.1 reaches))
          | inr le ↦ le
        ];
      } where
        rises : (i : ℕ) → n ≤ i → i < length events → event ≤ get_or events i 0
        rises i le lt = elim (cases_eq i n) [
          | inl e ↦ (let same = ap (λ (i : ℕ). get_or events i 0) e in omega (arith, same, here))
          | inr ne ↦ (let less = AllPairs-from_increasing events are.rising n i 0 (omega (arith, le, ne)) lt in omega (arith, less, here))
        ]

      -- a journey at the next event
      pub more_passed : (o : PointData) → IsJourney table s t event o → numbers o ≡ numbers q → IsLikeSince table s t d events (n + 1) p o
      more_passed o other same =
          let le = le_of_lt since in
          let count = other.counted in
          let one = rides_alike q o same in
          let two = rides_alike p q like.alike in
          let many : 1 ≤ length o.legs = omega (arith, count, one, two, ridden) in
          record {
            is = record {
              starts = other.starts;
              ends = other.ends;
              counted = other.counted;
              journey = journey_earlier table s d event o.legs t o.arrival le many other.journey;
              after = le_trans le other.after;
              in_time = other.in_time;
              just = other.just;
            };
            alike = same ∙ like.alike;
            passed = λ i lt. elim (cases_lt i n) [
              | inl before ↦ (let passed = like.passed i before in let a = other.after in omega (arith, passed, later, a))
              | inr from ↦ (let x = ap (λ (i : ℕ). get_or events i 0) (let z : i ≡ n = omega (arith, lt, from) in z) in let a = other.after in omega (arith, x, here, a))
            ];
          }

    -- an event that is passed
    pub one_passed : get_or events n 0 ≤ q.departure → IsLikeSince table s t d events (n + 1) p q
    one_passed le = record {
      is = like.is;
      alike = like.alike;
      passed = λ i lt. elim (cases_lt i n) [
        | inl before ↦ like.passed i before
        | inr from ↦ (let x = ap (λ (i : ℕ). get_or events i 0) (let z : i ≡ n = omega (arith, lt, from) in z) in omega (arith, x, le))
      ];
    }

-- ---- a point put in place of another

pub the_some_of : {X : Type 0} (P : X → Type 0) (o : Option X) (x : X) → o ≡ Some x → IfSome o P → P x
the_some_of P o x e h = subst (λ o. IfSome o P) e h

pub the_none_of : {X : Type 0} {P : Type 0} (o : Option X) → o ≡ None → IfNone o P → P
the_none_of {X} {P} o e h = subst (λ (o : Option X). IfNone o P) e h

pub numbers_set : (l : List PointData) (i : ℕ) (x : PointData) → i < length l → numbers x ≡ numbers (get_or l i x) → map numbers (slice_set l i x) ≡ map numbers l
numbers_set [] i x lt e = absurd (omega (arith, lt))
numbers_set (y ∷ l) zero x lt e = ap (λ (n : Numbers). n ∷ map numbers l) e
numbers_set (y ∷ l) (suc i) x lt e = ap (λ (ns : List Numbers). numbers y ∷ ns) (numbers_set l i x (omega (arith, lt)) e)

pub first_set : (P : PointData → Type 0) (l : List PointData) (i : ℕ) (x : PointData) → i < length l → ((k : ℕ) (d : PointData) → k < i → P (get_or l k d)) → P x
    → (k : ℕ) (d : PointData) → k < i + 1 → P (get_or (slice_set l i x) k d)
first_set P l i x within before here k d lt = elim (cases_eq k i) [
  | inl e ↦ subst P (sym (ap (λ (k : ℕ). get_or (slice_set l i x) k d) e ∙ get_or-set_same l i x d within)) here
  | inr ne ↦ subst P (sym (get_or-set_other l i k x d ne)) (before k d (omega (arith, lt, ne)))
]

-- one run after the other
pub alike : (old mid new : Scratch) → IsAlike old mid → IsAlike mid new → IsAlike old new
alike old mid new first second = record { rides = second.rides ∙ first.rides; made = λ table made. second.made table (first.made table made) }
