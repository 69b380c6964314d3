use Rattle.std.proofs.Common.{◌≡◌, ◌∙◌, ◌++◌, ℕ, List, All, sym, ap, subst, arith, length}
use Rattle.std.proofs.lemmas.List.Elements.{All-nil}
use Rattle.gtfs_rows.specs.declared.values.Trip.{Trip}
use Rattle.timetable.specs.Table.{IsRun, Run}
use Rattle.feed_timetable.specs.Instances.{instances_before}
use Rattle.feed_timetable.specs.Running.{listed_first}
use Rattle.feed_timetable.proofs.Listing.{due_several, first_due, first_not}
use Rattle.feed_timetable.proofs.before.list_before.Goals as goal
use Rattle.feed_timetable.proofs.before.list_before.Goals.{then-is_due+in_ok-list_trip, else-is_due}

pub list_trip-requires-clause-trip : goal.list_trip-requires-clause-trip
list_trip-requires-clause-trip c = omega (arith, c.loop-trip-test.true, ap (length {A = Trip}) c.trips-trip-end.ensures.value)

pub list_trip-requires-clause-several : goal.list_trip-requires-clause-several
list_trip-requires-clause-several c =
    due_several c.args.tables.now c.args.running.now 0 c.loop-trip.trip (sym c.is_due.ensures ∙ c.if-is_due.true)

pub list_trip-requires-clause-rows : goal.list_trip-requires-clause-rows
list_trip-requires-clause-rows c = c.of-rows.ensures ∙ c.requires.repeats c.loop-trip.trip

pub loop-trip-init : goal.loop-trip-init
loop-trip-init c = record {
  listed = c.in_ok-instances.ensures.items;
  runs = subst (All (IsRun (length c.args.tables.now.stops))) (sym c.in_ok-instances.ensures.items) (All-nil (IsRun (length c.args.tables.now.stops)));
}

pub loop-trip-preserved : goal.loop-trip-preserved
loop-trip-preserved c =
    let t = c.args.tables.now in
    let d = c.args.cover.now in
    let running = c.args.running.now in
    let trip = c.loop-trip.trip in
    elim c.if-is_due.branch [
      | then-is_due+in_ok-list_trip w ↦
          let due = sym c.is_due.ensures ∙ w.if-is_due.true in
          rw w.instances-is (record {
            listed = w.in_ok-list_trip.ensures.listed ∙ ap (λ (l : List Run). l ++ instances_before t d trip) c.loop-trip.invariant.listed
                ∙ sym (first_due t d running trip due);
            runs = w.in_ok-list_trip.ensures.runs;
          })
      | else-is_due w ↦
          rw w.instances-is (record {
            listed = c.loop-trip.invariant.listed ∙ sym (first_not t d running trip (sym c.is_due.ensures ∙ w.if-is_due.false));
            runs = c.loop-trip.invariant.runs;
          })
    ]

pub returns-clause-listed : goal.returns-clause-listed
returns-clause-listed c =
    let trips = ap (length {A = Trip}) c.trips-trip-end.ensures.value in
    let end : c.loop-trip.trip ≡ length c.args.tables.now.trips = omega (arith, c.loop-trip-test.false, c.loop-trip.auto.trip-end, trips) in
    subst (λ (n : ℕ). c.loop-trip.instances.items ≡ listed_first c.args.tables.now c.args.cover.now c.args.running.now n) end
    c.loop-trip.invariant.listed
