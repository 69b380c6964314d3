-- Where moments lie among the events of a stop.
use Rattle.std.proofs.Common.{Option, ◌≡◌, ℕ, ◌+◌, ◌<◌, ◌≤◌, List, length, get_or, option_map, unwrap_or, arith, ap, subst, inl, inr, le_refl, eq-or-lt_of_le}
use Rattle.std.specs.List.Sorted.{IsStrictlyIncreasing}
use Rattle.std.proofs.lemmas.Bool.{cases_lt}
use Rattle.std.proofs.lemmas.List.Kept.{AllPairs-from_increasing}
use Rattle.std.proofs.lemmas.List.Elements.{at_from_Contains, Contains-get_or}
use Rattle.timetable.specs.declared.parts.TheConstants.{LATEST_MOMENT}
use Rattle.timetable.specs.declared.parts.Call.{Call}
use Rattle.timetable.specs.Table.{Table, IsTable}
use Rattle.timetable.specs.Journeys.{call_at, departs, foot, from}
use Rattle.timetable.proofs.Legs.{there, stop_known_at}
use Rattle.timetable.proofs.Taken.{the_some}
use Rattle.rounds.specs.Events.{IsEvent, AreEvents}
use Rattle.connections.specs.Found.{AreMoments, LiesAt}

-- moments that rise never fall
pub rising_le : (xs : List ℕ) → IsStrictlyIncreasing xs → (i j : ℕ) → i ≤ j → j < length xs → get_or xs i 0 ≤ get_or xs j 0
rising_le xs rising i j le in' = elim (eq-or-lt_of_le le) [
  | inl e ↦ subst (λ (x : ℕ). get_or xs i 0 ≤ get_or xs x 0) e (le_refl (get_or xs i 0))
  | inr lt ↦ (let less = AllPairs-from_increasing xs rising i j 0 lt in' in let z : get_or xs i 0 ≤ get_or xs j 0 = omega (arith, less) in z)
]

pub rising_lt : (xs : List ℕ) → IsStrictlyIncreasing xs → (i j : ℕ) → i < j → j < length xs → get_or xs i 0 < get_or xs j 0
rising_lt xs rising i j lt in' = AllPairs-from_increasing xs rising i j 0 lt in'

-- an event is early enough for a run
pub event_early : (table : Table) (s e : ℕ) → IsTable table → IsEvent table s e → e ≤ LATEST_MOMENT
event_early table s e valid event =
    let leg = event.0 in
    let c = there (call_at table leg.instance leg.board) event.1.boards in
    let known = stop_known_at table leg.instance leg.board c.0 valid c.1 in
    let departure : departs table leg ≡ c.0.departure = ap (λ (o : Option Call). unwrap_or (option_map (λ c. c.departure) o) 0) c.1 in
    let w = the_some (foot table s (from table leg)) (λ w. e + w ≡ departs table leg) event.2 in
    omega (arith, w.2, departure, known.early)

-- the events of a stop
pub moments_are : (table : Table) (s : ℕ) (moments : List ℕ) → AreEvents table s moments → AreMoments (IsEvent table s) moments
moments_are table s moments are = record { rising = are.rising; each = are.each; all = are.all }

module _ (Is : ℕ → Type 0) (moments : List ℕ) where
  pub moment_is : (i : ℕ) → AreMoments Is moments → i < length moments → Is (get_or moments i 0)
  moment_is i are in' = are.each (get_or moments i 0) (Contains-get_or moments i 0 in')

  -- an event stands somewhere
  pub place_of : (x : ℕ) → AreMoments Is moments → Is x → (i : ℕ) × (i < length moments) × (get_or moments i 0 ≡ x)
  place_of x are is = let at = at_from_Contains moments x (are.all x is) in (at.0, at.1, at.2 0)

  -- there is no event from d on, before the next one
  pub between_moments : (n d : ℕ) → AreMoments Is moments → LiesAt moments n d
      → ((i : ℕ) → n ≤ i → i < length moments → get_or moments n 0 ≤ get_or moments i 0)
      → (x : ℕ) → d ≤ x → x < get_or moments n 0 → ¬ Is x
  between_moments n d are lies rises x le lt is =
      let at = place_of x are is in
      let e = at.2 in
      elim (cases_lt at.0 n) [
        | inl before ↦ (let b = lies.0 at.0 before in let z : ⊥ = omega (arith, b, e, le) in z)
        | inr after ↦ (let b = rises at.0 after at.1 in let z : ⊥ = omega (arith, b, e, lt) in z)
      ]

  -- and none at all, if there is no next one
  pub after_moments : (n d : ℕ) → AreMoments Is moments → LiesAt moments n d → length moments ≤ n → (x : ℕ) → d ≤ x → ¬ Is x
  after_moments n d are lies past x le is =
      let at = place_of x are is in
      let e = at.2 in
      let i = at.1 in
      let b = lies.0 at.0 (omega (arith, i, past)) in
      let z : ⊥ = omega (arith, b, e, le) in z

-- the moment after an event lies at the next one
pub lies_after : (Is : ℕ → Type 0) (moments : List ℕ) → AreMoments Is moments → (i n : ℕ) → i + 1 ≡ n → i < length moments
    → LiesAt moments n (get_or moments i 0 + 1)
lies_after Is moments are i n next in' = (
  λ j lt. (let le = rising_le moments are.rising j i (omega (arith, lt, next)) in' in let z : get_or moments j 0 < get_or moments i 0 + 1 = omega (arith, le) in z),
  λ j le lt. (let less = rising_lt moments are.rising i j (omega (arith, le, next)) lt in let z : get_or moments i 0 + 1 ≤ get_or moments j 0 = omega (arith, less) in z),
)
