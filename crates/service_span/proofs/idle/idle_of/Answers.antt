use Rattle.std.proofs.Common.{◌≡◌, ◌∙◌, subst, arith, inl, inr, ℕ, ◌+◌, ◌<◌, ◌≤◌, length}
use Rattle.service_days.specs.Noon.{IsDaysAfter}
use Rattle.service_span.specs.Days.{trips_on}
use Rattle.service_span.proofs.TripFacts.{trips_counted, service_days_have_trips, no_trip, below_or_same}
use Rattle.service_span.proofs.idle.idle_of.Goals as goal

pub returns-then-running_trips-gt0 : goal.returns-then-running_trips-gt0
returns-then-running_trips-gt0 c =
    let t = c.args.tables.now in
    let day = c.loop-day.day in
    let lt : day < length c.args.cover.now.starts = let e = c.days-day-end.ensures.count in let h = c.loop-day-test.true in omega (arith, e, h) in
    let start = c.days-day-end.ensures.starts.1.each day c.loop-day-test.true in
    let counted = rw (c.deref.ensures.value, c.trips.ensures.value) at c.running_trips.ensures in
    let trips : c.running_trips.result ≡ trips_on t start.0 =
    counted ∙ trips_counted t start.0 c.in_ok-running.running.items (day + 1) c.trips.ensures.valid.services
    (λ service there. (c.in_ok-running.ensures.running.days service there).covered day start.0 (lt, start.1)) in
    let some : 1 ≤ trips_on t start.0 = let h = c.if-running_trips-gt0.true in omega (arith, trips, h) in
    (day, start.0, (lt, start.1), (service_days_have_trips t start.0).1 some)

pub loop-day-preserved : goal.loop-day-preserved
loop-day-preserved c = λ day date below is. elim (below_or_same day c.loop-day.day below) [
  | inl before ↦ c.loop-day.invariant day date before is
  | inr same ↦
      let t = c.args.tables.now in
      let here = c.loop-day.day in
      let lt : here < length c.args.cover.now.starts = let e = c.days-day-end.ensures.count in let h = c.loop-day-test.true in omega (arith, e, h) in
      let it : IsDaysAfter here c.args.cover.now.first date = subst (λ (n : ℕ). IsDaysAfter n c.args.cover.now.first date) same is in
      let counted = rw (c.deref.ensures.value, c.trips.ensures.value) at c.running_trips.ensures in
      let trips : c.running_trips.result ≡ trips_on t date =
      counted ∙ trips_counted t date c.in_ok-running.running.items (here + 1) c.trips.ensures.valid.services
      (λ service there. (c.in_ok-running.ensures.running.days service there).covered here date (lt, it)) in
      no_trip t date (let h = c.if-running_trips-gt0.false in omega (arith, trips, h))
]
