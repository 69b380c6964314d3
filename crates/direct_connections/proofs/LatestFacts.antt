-- The latest ride that boards at one of the positions seen so far.
use Rattle.std.proofs.Common.{Option, Some, None, MatchOption, IfSome, IfNone, ◌≡◌, ℕ, ◌+◌, ◌<◌, ◌≤◌, inl, inr, List, length, get_or, refl, sym, ◌∙◌, ap, subst, arith, le_refl, le_trans, le_of_eq, eq-or-lt_of_le, option_map, unwrap_or}
use Rattle.std.proofs.lemmas.Bool.{cases_lt}
use Rattle.std.proofs.lemmas.List.{get_or_default}
use Rattle.timetable.specs.declared.parts.Call.{Call}
use Rattle.timetable.specs.declared.parts.Leg.{Leg}
use Rattle.timetable.specs.Table.{Table, IsTable}
use Rattle.timetable.specs.Journeys.{Ride, call_at, departs, Serves}
use Rattle.timetable.proofs.Legs.{there, call_is, calls_are}
use Rattle.lines.specs.declared.lines.LinePosition.{LinePosition}
use Rattle.lines.specs.Lines.{LineData, LineTable, AreLines}
use Rattle.direct_connections.specs.declared.latest.LastRide.{LastRide}
use Rattle.direct_connections.specs.declared.positions.Side.TheVariants.{Board, Alight}
use Rattle.direct_connections.specs.Direct.{Allows, AreExactly}
use Rattle.direct_connections.specs.Search.{IsFirstBehind, BoardsAt}
use Rattle.direct_connections.specs.Latest.{ServesBy, IsLastRide}
use Rattle.direct_connections.proofs.SearchFacts.{HasPassed, passed_none, boards_on, one_passed, all_passed, left}

pub serves_of : (table : Table) (p q by : ℕ) (leg : Leg) → ServesBy table p q by leg → Serves table p q (departs table leg) leg
serves_of table p q by leg s = record { ride = s.ride; starts = s.starts; ends = s.ends; in_time = le_refl (departs table leg) }

-- a ride departs no later than the latest time
pub departs_early : (table : Table) (leg : Leg) → IsTable table → Ride table leg → departs table leg ≤ 3455998
departs_early table leg is ride =
    let f = there (call_at table leg.instance leg.board) ride.boards in
    let k = call_is (calls_are table leg.instance is) leg.board f.0 f.1 in
    le_trans (le_of_eq (ap (λ o. unwrap_or (option_map (λ (c : Call). c.departure) o) 0) f.1)) k.early

-- a ride as late as any that boards at one of the first m positions, which departs just before `since`
pub record IsLatestTo (table : Table) (lines : List LineData) (p q by : ℕ) (boards alights : List LinePosition) (m next : ℕ) (best : Option LastRide) (since : ℕ) : Type 0 where
  pub attained : MatchOption best (since ≡ 0) (λ ride. ServesBy table p q by ride.leg × (ride.departure ≡ departs table ride.leg) × (since ≡ ride.departure + 1))
  pub most : (k : ℕ) (at : LinePosition) → k < m → k < length boards → get_or boards k at ≡ at → (other : Leg) → ServesBy table p q by other → BoardsAt lines at other → departs table other < since
  pub walked : HasPassed boards alights m next

pub latest_none : (table : Table) (lines : List LineData) (p q by : ℕ) (boards alights : List LinePosition) → IsLatestTo table lines p q by boards alights 0 0 None 0
latest_none table lines p q by boards alights = record {
  attained = refl;
  most = λ k at h. absurd (omega arith);
  walked = passed_none boards alights;
}

module _ (table : Table) (lines : LineTable) (valid : IsTable table) (are : AreLines table lines) (p q by : ℕ) (boards alights : List LinePosition)
    (boards_are : AreExactly (Allows Board lines.lines p) boards) (alights_are : AreExactly (Allows Alight lines.lines q) alights) where
  -- every ride boards at one of the positions
  latest_all : (m next since : ℕ) (best : Option LastRide) → length boards ≤ m → IsLatestTo table lines.lines p q by boards alights m next best since
      → (other : Leg) → ServesBy table p q by other → departs table other < since
  latest_all m next since best long is other s =
      let b = boards_on table lines valid are p q (departs table other) other (serves_of table p q by other s) in
      let has = boards_are.all b.0 b.1 in
      is.most has.0 b.0 (let f = has.1 in omega arith) has.1 has.2 other s b.2

  pub latest_is : (m next since : ℕ) (best : Option LastRide) → length boards ≤ m → IsLatestTo table lines.lines p q by boards alights m next best since
      → IfSome best (λ ride. (other : Leg) → ServesBy table p q by other → departs table other ≤ ride.departure)
  latest_is m next since None long is = tt
  latest_is m next since (Some ride) long is = λ other s.
      let less = latest_all m next since (Some ride) long is other s in
      let same : since ≡ ride.departure + 1 = is.attained.2 in
      let z : departs table other ≤ ride.departure = omega (arith, less, same) in z

  pub none_latest : (m next since : ℕ) (best : Option LastRide) → length boards ≤ m → IsLatestTo table lines.lines p q by boards alights m next best since
      → IfNone best ((leg : Leg) → ¬ ServesBy table p q by leg)
  none_latest m next since None long is = λ leg s.
      let less = latest_all m next since None long is leg s in
      let e : since ≡ 0 = is.attained in
      absurd (omega (arith, less, e))
  none_latest m next since (Some ride) long is = tt

  pub latest_serves : (m next since : ℕ) (best : Option LastRide) → IsLatestTo table lines.lines p q by boards alights m next best since → IfSome best (λ ride. ServesBy table p q by ride.leg)
  latest_serves m next since None is = tt
  latest_serves m next since (Some ride) is = is.attained.0

  pub latest_departs : (m next since : ℕ) (best : Option LastRide) → IsLatestTo table lines.lines p q by boards alights m next best since → IfSome best (λ ride. ride.departure ≡ departs table ride.leg)
  latest_departs m next since None is = tt
  latest_departs m next since (Some ride) is = is.attained.1

  module _ (m next : ℕ) (best : Option LastRide) (since : ℕ) (is : IsLatestTo table lines.lines p q by boards alights m next best since) (x : LinePosition) (h : m < length boards)
      (at : x ≡ get_or boards m x) (n : ℕ) (first : IsFirstBehind alights next x n) where
    here_or_before : (since' : ℕ) → since ≤ since' → ((other : Leg) → ServesBy table p q by other → BoardsAt lines.lines x other → departs table other < since')
        → (k : ℕ) (y : LinePosition) → k < m + 1 → k < length boards → get_or boards k y ≡ y → (other : Leg) → ServesBy table p q by other → BoardsAt lines.lines y other → departs table other < since'
    here_or_before since' le here k y low within found other s on = elim (eq-or-lt_of_le (let le : k ≤ m = omega arith in le)) [
      | inl e ↦ here other s (subst (λ z. BoardsAt lines.lines z other) (sym found ∙ (ap (λ i. get_or boards i y) e ∙ (get_or_default boards m y x h ∙ sym at))) on)
      | inr lt ↦ let less = is.most k y lt within found other s on in let z : departs table other < since' = omega (arith, less, le) in z
    ]

    -- no ride that boards here departs later
    pub latest_keeps : ((other : Leg) → ServesBy table p q by other → BoardsAt lines.lines x other → departs table other < since)
        → IsLatestTo table lines.lines p q by boards alights (m + 1) n best since
    latest_keeps here = record {
      attained = is.attained;
      most = here_or_before since (le_refl since) here;
      walked = one_passed table lines valid are p q 0 boards alights boards_are alights_are m next is.walked x h at n first;
    }

    -- a ride that boards here departs later
    pub latest_improves : (ride : LastRide) → IsLastRide table lines.lines p q by since x ride
        → IsLatestTo table lines.lines p q by boards alights (m + 1) n (Some ride) (ride.departure + 1)
    latest_improves ride last_here = record {
      attained = (last_here.serves, last_here.departure, refl);
      most = here_or_before (ride.departure + 1) (let late = last_here.late in omega (arith, late))
          (λ other s on. let le = last_here.most other s on in let z : departs table other < ride.departure + 1 = omega (arith, le) in z);
      walked = one_passed table lines valid are p q 0 boards alights boards_are alights_are m next is.walked x h at n first;
    }

    -- no position of alighting is left
    pub latest_left : length alights ≤ n → IsLatestTo table lines.lines p q by boards alights (length boards) n best since
    latest_left long = record {
      attained = is.attained;
      most = λ k y low within found other s on. most_left k y within found other s on;
      walked = all_passed table lines valid are p q 0 boards alights boards_are alights_are m next is.walked x h at n first;
    } where
      most_left : (k : ℕ) (y : LinePosition) → k < length boards → get_or boards k y ≡ y → (other : Leg) → ServesBy table p q by other → BoardsAt lines.lines y other → departs table other < since
      most_left k y within found other s on = elim (cases_lt k m) [
        | inl lt ↦ is.most k y lt within found other s on
        | inr from ↦
            let l = left table lines valid are p q (departs table other) boards alights boards_are alights_are m next is.walked x h at n first k y from within found other (serves_of table p q by other s) on in
            absurd (let a = l.1 in let b = l.2 in omega arith)
      ]
