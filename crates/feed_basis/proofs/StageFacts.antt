-- The rides and walks of a journey: when they are, and that the names know their stops and trips.
use Rattle.std.proofs.Common.{Option, ◌≡◌, ℕ, ◌+◌, ◌<◌, ◌≤◌, Bool, true, false, ◌==◌, cond, List, [], ◌∷◌, length, Some, None, All, IsSomeAnd, option_map, unwrap_or, arith, refl, ap, le_trans}
use Rattle.std.proofs.lemmas.List.Elements.{All-append, All-cons, All-nil}
use Rattle.std.proofs.lemmas.Option.{slice_get-get_or}
use Rattle.timetable.specs.declared.parts.Call.{Call}
use Rattle.timetable.specs.declared.parts.Leg.{Leg}
use Rattle.timetable.specs.Table.{Table, Run, IsTable, walk}
use Rattle.timetable.specs.declared.parts.TheConstants.{LATEST_MOMENT}
use Rattle.timetable.specs.Journeys.{call_at, Ride, from, to, departs, arrives, foot, Journey, Onward}
use Rattle.timetable.proofs.Legs.{calls_are, call_is, there, ride_within}
use Rattle.timetable.proofs.Rows.{walk_short}
use Rattle.feed_basis.specs.Basis.{BasisData, IsSound}
use Rattle.feed_basis.specs.Points.{IsKnownStage}
use Rattle.feed_basis.specs.Stages.{stages_of, walk_stage, trip_of}
use Rattle.feed_basis.specs.declared.numbered.NumberedStage.TheVariants as numbered

-- no leg arrives later than the latest call
pub arrives_by : (table : Table) (leg : Leg) → IsTable table → arrives table leg ≤ 3_455_998
arrives_by table leg valid = go (call_at table leg.instance leg.alight) refl where
  go : (o : Option Call) → call_at table leg.instance leg.alight ≡ o → unwrap_or (option_map (λ c. c.arrival) o) 0 ≤ 3_455_998
  go None e = omega arith
  go (Some c) e = let is = call_is (calls_are table leg.instance valid) leg.alight c e in le_trans is.waits is.early

-- no leg departs later than it arrives
departs_by : (table : Table) (leg : Leg) → IsTable table → Ride table leg → departs table leg ≤ 3_455_998
departs_by table leg valid ride = go (call_at table leg.instance leg.board) refl where
  go : (o : Option Call) → call_at table leg.instance leg.board ≡ o → unwrap_or (option_map (λ c. c.departure) o) 0 ≤ 3_455_998
  go None e = omega arith
  go (Some c) e = (call_is (calls_are table leg.instance valid) leg.board c e).early

-- one who leaves later for the same arrival leaves early enough to be reported
pub leaves_early : (table : Table) (s t d e z : ℕ) (legs : List Leg) → IsTable table → d ≤ LATEST_MOMENT → Journey table s d legs t z
    → Journey table s e legs t z → e ≤ LATEST_MOMENT
leaves_early table s t d e z [] valid early at_d at_e = go (foot table s t) at_d at_e where
  go : (o : Option ℕ) → IsSomeAnd o (λ w. z ≡ d + w) → IsSomeAnd o (λ w. z ≡ e + w) → e ≤ LATEST_MOMENT
  go None a b = absurd a
  go (Some w) a b = omega (arith, a, b, early)
leaves_early table s t d e z (leg ∷ legs) valid early at_d at_e = go (foot table s (from table leg)) at_e.1 where
  by : departs table leg ≤ 3_455_998
  by = departs_by table leg valid at_e.0

  go : (o : Option ℕ) → IsSomeAnd o (λ w. e + w ≤ departs table leg) → e ≤ LATEST_MOMENT
  go None a = absurd a
  go (Some w) a = omega (arith, a, by)

-- a walk takes a day at most
pub walk_by : (table : Table) (p q : ℕ) → IsTable table → unwrap_or (walk table p q) 0 ≤ 86_400
walk_by table p q valid = go (walk table p q) refl where
  go : (o : Option ℕ) → walk table p q ≡ o → unwrap_or o 0 ≤ 86_400
  go None e = omega arith
  go (Some s) e = walk_short table p q s valid e

module _ (basis : BasisData) (valid : IsTable basis.timetable) (sound : IsSound basis) where
  at_known : (n position : ℕ) → (P : Call → Type 0) → IsSomeAnd (call_at basis.timetable n position) P
      → unwrap_or (option_map (λ c. c.stop) (call_at basis.timetable n position)) 0 < length basis.names.stops
  at_known n position P h =
      let f = there (call_at basis.timetable n position) h in
      let is = call_is (calls_are basis.timetable n valid) position f.0 f.1 in
      let e = ap (λ o. unwrap_or (option_map (λ (c : Call). c.stop) o) 0) f.1 in
      let known = is.known in
      let count = sound.stops in
      omega (arith, e, known, count)

  no_run : Run
  no_run = record { trip = 0; day = 0; calls = [] }

  trip_known : (leg : Leg) → Ride basis.timetable leg → trip_of basis.timetable leg.instance < length basis.names.trips
  trip_known leg ride =
      let lt = ride_within basis.timetable leg ride in
      let e = ap (λ o. unwrap_or (option_map (λ (run : Run). run.trip) o) 0) (slice_get-get_or basis.timetable.instances leg.instance no_run lt) in
      let known = sound.trips leg.instance no_run lt in
      omega (arith, e, known)

  ride_known : (leg : Leg) → Ride basis.timetable leg → IsKnownStage basis (numbered.Ride leg)
  ride_known leg ride = (
    ride_within basis.timetable leg ride,
    trip_known leg ride,
    at_known leg.instance leg.board _ ride.boards,
    at_known leg.instance leg.alight _ ride.alights,
  )

  walk_known : (p a q : ℕ) → p < length basis.names.stops → q < length basis.names.stops → All (IsKnownStage basis) (walk_stage basis.timetable p a q)
  walk_known p a q from_known to_known = go (p == q) where
    go : (same : Bool) → All (IsKnownStage basis) (cond same [] (numbered.Walk p q a (a + unwrap_or (walk basis.timetable p q) 0) ∷ []))
    go true = All-nil (IsKnownStage basis)
    go false = All-cons (IsKnownStage basis) (numbered.Walk p q a (a + unwrap_or (walk basis.timetable p q) 0)) [] (from_known, to_known) (All-nil (IsKnownStage basis))

  onward_known : (p a : ℕ) (legs : List Leg) (t z : ℕ) → p < length basis.names.stops → t < length basis.names.stops → Onward basis.timetable p a legs t z
      → All (IsKnownStage basis) (stages_of basis.timetable p a legs t)
  onward_known p a [] t z from_known to_known h = walk_known p a t from_known to_known
  onward_known p a (leg ∷ legs) t z from_known to_known h =
      let known = ride_known leg h.0 in
      All-append (IsKnownStage basis) (walk_stage basis.timetable p a (from basis.timetable leg)) _ (walk_known p a (from basis.timetable leg) from_known known.2)
      (All-cons (IsKnownStage basis) (numbered.Ride leg) _ known
      (onward_known (to basis.timetable leg) (arrives basis.timetable leg) legs t z known.3 to_known h.2))

  -- the rides and walks of a journey between stops that the names know
  pub journey_known : (s d : ℕ) (legs : List Leg) (t z : ℕ) → s < length basis.names.stops → t < length basis.names.stops → Journey basis.timetable s d legs t z
      → All (IsKnownStage basis) (stages_of basis.timetable s d legs t)
  journey_known s d [] t z from_known to_known h = walk_known s d t from_known to_known
  journey_known s d (leg ∷ legs) t z from_known to_known h =
      let known = ride_known leg h.0 in
      All-append (IsKnownStage basis) (walk_stage basis.timetable s d (from basis.timetable leg)) _ (walk_known s d (from basis.timetable leg) from_known known.2)
      (All-cons (IsKnownStage basis) (numbered.Ride leg) _ known
      (onward_known (to basis.timetable leg) (arrives basis.timetable leg) legs t z known.3 to_known h.2))
