use Rattle.std.proofs.Common.{◌≡◌, ◌+◌, ◌++◌, ℕ, List, length, arith, sym, ◌∙◌, ap, subst}
use Rattle.gtfs_rows.specs.declared.values.Trip.{Trip}
use Rattle.timetable.specs.Table.{Run}
use Rattle.feed_timetable.specs.Instances.{instances_from}
use Rattle.feed_timetable.specs.Running.{listed, listed_before}
use Rattle.feed_timetable.proofs.Listing.{due_several, listed_due, listed_not, listed_day}
use Rattle.feed_timetable.proofs.instances.list_instances.Goals as goal
use Rattle.feed_timetable.proofs.instances.list_instances.Goals.{then-is_due+in_ok-list_trip, else-is_due}

pub list_trip-requires-clause-several : goal.list_trip-requires-clause-several
list_trip-requires-clause-several c =
    due_several c.args.tables.now c.args.running.now (c.loop-number.number + 1) c.loop-trip.trip (sym c.is_due.ensures ∙ c.if-is_due.true)

pub loop-trip-preserved : goal.loop-trip-preserved
loop-trip-preserved c =
    let t = c.args.tables.now in
    let d = c.args.cover.now in
    let running = c.args.running.now in
    let day = c.loop-number.number in
    let trip = c.loop-trip.trip in
    elim c.if-is_due.branch [
      | then-is_due+in_ok-list_trip w ↦
          let due = sym c.is_due.ensures ∙ w.if-is_due.true in
          rw w.instances-is (record {
            listed = w.in_ok-list_trip.ensures.listed
                ∙ (ap (λ (runs : List Run). runs ++ instances_from t c.day_start-start.result day trip) c.loop-trip.invariant.listed
                ∙ (ap (λ start. listed t d running day trip ++ instances_from t start day trip) c.day_start-start.ensures.value
                ∙ sym (listed_due t d running day trip due)));
            runs = w.in_ok-list_trip.ensures.runs;
          })
      | else-is_due w ↦
          rw w.instances-is (record {
            listed = c.loop-trip.invariant.listed ∙ sym (listed_not t d running day trip (sym c.is_due.ensures ∙ w.if-is_due.false));
            runs = c.loop-trip.invariant.runs;
          })
    ]

pub loop-number-preserved : goal.loop-number-preserved
loop-number-preserved c =
    let all : c.loop-trip.trip ≡ length c.args.tables.now.trips =
    omega (arith, c.loop-trip-test.false, c.loop-trip.auto.trip-end, ap (length {A = Trip}) c.trips-trip-end.ensures.value) in
    record {
      listed = c.loop-trip.invariant.listed ∙ (ap (λ n. listed c.args.tables.now c.args.cover.now c.args.running.now c.loop-number.number n) all
          ∙ sym (listed_day c.args.tables.now c.args.cover.now c.args.running.now c.loop-number.number));
      runs = c.loop-trip.invariant.runs;
    }

pub list_trip-requires-clause-trip : goal.list_trip-requires-clause-trip
list_trip-requires-clause-trip c = omega (arith, c.loop-trip-test.true, ap (length {A = Trip}) c.trips-trip-end.ensures.value)

pub list_trip-requires-clause-rows : goal.list_trip-requires-clause-rows
list_trip-requires-clause-rows c = c.of-rows.ensures ∙ c.requires.repeats c.loop-trip.trip

pub loop-number-init : goal.loop-number-init
loop-number-init c = record { listed = c.requires.before; runs = c.requires.runs }

pub loop-trip-init : goal.loop-trip-init
loop-trip-init c = c.loop-number.invariant

pub returns-clause-listed : goal.returns-clause-listed
returns-clause-listed c =
    let t = c.args.tables.now in
    let d = c.args.cover.now in
    let end : c.loop-number.number ≡ length d.starts = omega (arith, c.loop-number-test.false, c.loop-number.auto.number-end, c.days-number-end.ensures.count) in
    subst (λ (n : ℕ). c.loop-number.instances.items ≡ listed_before t d c.args.running.now n) end c.loop-number.invariant.listed
