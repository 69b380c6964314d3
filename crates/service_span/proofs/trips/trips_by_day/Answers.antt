use Rattle.std.proofs.Common.{◌≡◌, ◌∙◌, subst, arith, ◌<◌, ◌++◌, ◌∷◌, [], length-append}
use Rattle.std.proofs.lemmas.List.Elements.{All-push}
use Rattle.service_days.specs.Noon.{IsDaysAfter}
use Rattle.jiff_core.specs.declared.civil.date.Date.{Date}
use Rattle.service_span.specs.Days.{trips_on}
use Rattle.service_span.specs.declared.trips.DayTrips.{DayTrips}
use Rattle.service_span.proofs.TripFacts.{push_day, trips_counted}
use Rattle.service_span.proofs.trips.trips_by_day.Goals as goal

pub loop-day-preserved : goal.loop-day-preserved
loop-day-preserved c =
    let t = c.args.tables.now in
    let items = c.loop-day.list.items in
    let n = c.loop-day.day in
    let date = c.date.result in
    let day : DayTrips = record { date = date; trips = c.running_trips.result } in
    let dates = c.dates_from-dates.result in
    let lt : n < dates.count = let e = c.count-day-end.ensures.value in let h = c.loop-day-test.true in omega (arith, e, h) in
    let read = rw (c.deref.ensures.value, c.trips.ensures.value) at c.running_trips.ensures in
    let counted : c.running_trips.result ≡ trips_on t date =
    read ∙ trips_counted t date c.in_ok-running.running.items n c.trips.ensures.valid.services
    (λ service there. c.in_ok-running.ensures.running.days service there n date (lt, c.date.ensures)) in
    let is : IsDaysAfter n c.args.first date = subst (λ (first : Date). IsDaysAfter n first date) c.dates_from-dates.ensures.first c.date.ensures in
    let more : c.push.new.self.items ≡ items ++ day ∷ [] = c.in_ok-push.ensures.items in
    rw more (record {
      long = let l = length-append items (day ∷ []) in let b = c.loop-day.invariant.long in omega (arith, l, b);
      dates = push_day c.args.first items n day c.loop-day.invariant.long c.loop-day.invariant.dates is;
      trips = All-push (λ (d : DayTrips). d.trips ≡ trips_on t d.date) items day c.loop-day.invariant.trips counted;
    })
