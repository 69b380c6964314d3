use Rattle.std.proofs.Common.{◌≡◌, ◌++◌, List, length, sym, ◌∙◌, ap, subst}
use Rattle.std.specs.List.{All}
use Rattle.std.specs.Result.{OnOk}
use Rattle.std.proofs.lemmas.List.Elements.{All-push}
use Rattle.gtfs_frequencies.specs.Frequencies.{IsFrequency}
use Rattle.gtfs_rows.specs.declared.values.Trip.{Trip}
use Rattle.gtfs_tables.specs.Tables.{calls_of}
use Rattle.timetable.specs.Table.{Run, IsRun}
use Rattle.feed_timetable.specs.Limits.{AreTimesOf}
use Rattle.feed_timetable.specs.Running.{repeated_from}
use Rattle.feed_timetable.proofs.Listing.{instances_repeated}
use Rattle.feed_timetable.proofs.Repeating.{rows_known}
use Rattle.feed_timetable.proofs.Shifting.{times_are}
use Rattle.feed_timetable.proofs.instances.list_trip.Goals as goal

pub instance_at-requires-clause-times : goal.instance_at-requires-clause-times
instance_at-requires-clause-times c =
    subst (AreTimesOf (calls_of c.args.tables.now c.args.trip)) (sym c.deref.ensures.value)
    (times_are c.args.tables.now c.args.trip c.calls.result.now c.fill_times.new.times.items c.calls.ensures.valid c.requires.trip c.calls.ensures.value c.requires.several
    c.in_ok-fill_times.ensures.filled c.in_ok-fill_times.ensures.rising c.in_ok-fill_times.ensures.early)

pub returns-then-is_empty-clause-runs : goal.returns-then-is_empty-clause-runs
returns-then-is_empty-clause-runs c =
    rw c.in_ok-push.ensures.items
    (All-push (IsRun (length c.args.tables.now.stops)) c.args.instances.now.items c.in_ok-instance.instance c.requires.runs c.in_ok-instance.ensures.run)

pub list_departures-requires : goal.list_departures-requires
list_departures-requires c = record {
  rows = subst (λ (trips : List Trip). All (IsFrequency (length trips)) c.args.rows.now) (sym c.trips.ensures.value)
      (rows_known c.args.tables.now c.args.trip c.args.rows.now c.trips.ensures.valid c.requires.rows);
}

pub list_repeated-requires-clause-times : goal.list_repeated-requires-clause-times
list_repeated-requires-clause-times c =
    subst (AreTimesOf (calls_of c.args.tables.now c.args.trip)) (sym c.deref-2.ensures.value)
    (times_are c.args.tables.now c.args.trip c.calls.result.now c.fill_times.new.times.items c.calls.ensures.valid c.requires.trip c.calls.ensures.value c.requires.several
    c.in_ok-fill_times.ensures.filled c.in_ok-fill_times.ensures.rising c.in_ok-fill_times.ensures.early)

pub returns-clause-listed : goal.returns-clause-listed
returns-clause-listed c =
    let t = c.args.tables.now in
    let departures = c.deref-3.ensures.value ∙ c.in_ok-list_departures.ensures.listed in
    let are = ap (repeated_from t c.args.day.start c.args.day.number c.args.trip) departures
    ∙ instances_repeated t c.args.day.start c.args.day.number c.args.trip c.args.rows.now c.requires.rows (sym c.is_empty.ensures ∙ c.if-is_empty.false) in
    subst (λ (runs : List Run). OnOk c.list_repeated.result (c.list_repeated.new.instances.items ≡ c.args.instances.now.items ++ runs)) are c.list_repeated.ensures.listed
