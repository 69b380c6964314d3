-- Instances are of trips of the tables.
use Rattle.std.proofs.Common.{◌≡◌, ℕ, zero, suc, ◌+◌, ◌<◌, Bool, true, false, nat_le, cond, Option, Some, None, List, [], ◌∷◌, length, arith, subst, sym}
use Rattle.std.specs.List.{All, cons_option, filter_map, flat_map, range_with_len}
use Rattle.std.specs.Option.{IfSome}
use Rattle.std.proofs.lemmas.List.Elements.{All-append, All-cons, All-filter, All-head, All-map, All-nil, All-tail, All-weaker}
use Rattle.jiff_core.specs.declared.civil.date.Date.{Date}
use Rattle.gtfs_tables.specs.Tables.{TableValues, calls_of}
use Rattle.service_days.specs.Cover.{CoverDays}
use Rattle.timetable.specs.declared.parts.Call.{Call}
use Rattle.timetable.specs.Table.{Run}
use Rattle.feed_timetable.specs.Departures.{rows_of}
use Rattle.feed_timetable.specs.Instances.{calls_by, calls_left, instances_before, instances_from, instances_on, run_before, trips_on}
use Rattle.feed_timetable.specs.Laws.{HasKnownTrips}

-- what holds of each list holds of all of them
all_flat : {X Y : Type 0} (P : Y → Type 0) (f : X → List Y) (xs : List X) → All (λ x. All P (f x)) xs → All P (flat_map f xs)
all_flat P f [] h = All-nil P
all_flat P f (x ∷ xs) h =
    All-append P (f x) (flat_map f xs) (All-head (λ x. All P (f x)) x xs h) (all_flat P f xs (All-tail (λ x. All P (f x)) x xs h))

-- what holds of each that is kept
kept : {Y : Type 0} (P : Y → Type 0) (o : Option Y) (ys : List Y) → IfSome o P → All P ys → All P (cons_option o ys)
kept P None ys is h = h
kept P (Some y) ys is h = All-cons P y ys is h

all_kept : {X Y : Type 0} (P : Y → Type 0) (f : X → Option Y) (xs : List X) → ((x : X) → IfSome (f x) P) → All P (filter_map f xs)
all_kept P f [] h = All-nil P
all_kept P f (x ∷ xs) h = kept P (f x) (filter_map f xs) (h x) (all_kept P f xs h)

all_below : (a n : ℕ) → All (λ k. k < a + n) (range_with_len a n)
all_below a zero = All-nil (λ k. k < a + zero)
all_below a (suc n) =
    let same : a + 1 + n ≡ a + suc n = omega arith in
    All-cons (λ k. k < a + suc n) a (range_with_len (a + 1) n) (omega arith)
    (subst (λ m. All (λ k. k < m) (range_with_len (a + 1) n)) same (all_below (a + 1) n))

module _ (t : TableValues) (c : CoverDays) where
  abbrev IsKnown : Run → Type 0
  IsKnown run = run.trip < length t.trips

  abbrev IsTrip : ℕ → Type 0
  IsTrip trip = trip < length t.trips

  known_from : (start day trip : ℕ) → IsTrip trip → All IsKnown (instances_from t start day trip)
  known_from start day trip in' =
      All-map IsKnown (λ calls. record { trip = trip; day = day; calls = calls }) (calls_by (rows_of t trip) start (calls_of t trip)) (λ k d lt. in')

  run_known : (trip : ℕ) (calls : List Call) → IsTrip trip → IfSome (run_before trip calls) IsKnown
  run_known trip calls in' = go (nat_le 2 (length calls)) where
    go : (b : Bool) → IfSome (cond b (Some (record { trip = trip; day = 255; calls = calls })) None) IsKnown
    go true = in'
    go false = tt

  known_before : (trip : ℕ) → IsTrip trip → All IsKnown (instances_before t c trip)
  known_before trip in' =
      all_kept IsKnown (λ calls. run_before trip (calls_left c.before calls)) (calls_by (rows_of t trip) 0 (calls_of t trip))
      (λ calls. run_known trip (calls_left c.before calls) in')

  trips_known : (date : Date) (trips : List ℕ) → trips ≡ trips_on t date → All IsTrip trips
  trips_known date trips same = subst (All IsTrip) (sym same) (All-filter _ IsTrip (range_with_len 0 (length t.trips)) ranged) where
    ranged : All IsTrip (range_with_len 0 (length t.trips))
    ranged =
        let same : 0 + length t.trips ≡ length t.trips = omega arith in
        subst (λ m. All (λ k. k < m) (range_with_len 0 (length t.trips))) same (all_below 0 (length t.trips))

pub trips_are_known : HasKnownTrips
trips_are_known t c instances before dates h =
    let n = length c.starts in
    let front = all_flat (IsKnown t c) (instances_before t c) h.before
    (All-weaker (IsTrip t c) (λ trip. All (IsKnown t c) (instances_before t c trip)) (known_before t c) h.before
    (trips_known t c before.0 h.before (h.running_before before.0 before.1))) in
    let on = λ (day : ℕ) (lt : day < 0 + n).
    let date = dates day (omega (arith, lt)) in
    all_flat (IsKnown t c) (instances_on t c day) (h.trips day)
    (All-weaker (IsTrip t c) (λ trip. All (IsKnown t c) (instances_on t c day trip)) (known_from t c _ day) (h.trips day)
    (trips_known t c date.0 (h.trips day) (h.running day date.0 date.1))) in
    let back = all_flat (IsKnown t c) (λ day. flat_map (instances_on t c day) (h.trips day)) (range_with_len 0 n)
    (All-weaker (λ day. day < 0 + n) (λ day. All (IsKnown t c) (flat_map (instances_on t c day) (h.trips day))) on (range_with_len 0 n) (all_below 0 n)) in
    subst (All (IsKnown t c)) (sym h.instances_are) (All-append (IsKnown t c) _ _ front back)
