use Rattle.std.proofs.Common.{◌≡◌, ℕ, ◌+◌, ◌++◌, ◌∷◌, [], List, length, get_or, sym, ◌∙◌, ap, take, append_assoc}
use Rattle.std.proofs.lemmas.List.Elements.{All-push}
use Rattle.gtfs_tables.specs.Tables.{calls_of}
use Rattle.gtfs_calls.specs.Times.{at}
use Rattle.gtfs_calls.specs.declared.times.CallTimes.{CallTimes}
use Rattle.timetable.specs.Table.{Run, IsRun}
use Rattle.feed_timetable.specs.Instances.{calls_from, first_departure}
use Rattle.feed_timetable.specs.Running.{repeated_from}
use Rattle.feed_timetable.proofs.Listing.{repeated_more}
use Rattle.feed_timetable.proofs.instances.list_repeated.Goals as goal

pub loop-departure-preserved : goal.loop-departure-preserved
loop-departure-preserved c =
    let t = c.args.tables.now in
    let trip = c.args.trip in
    let calls = calls_of t trip in
    let departures = c.args.departures.now in
    let i = c.loop-departure.departure-index in
    let time = get_or departures i 0 in
    let instance : Run = c.in_ok-instance.instance in
    let first = ap (λ (ts : List CallTimes). (get_or ts 0 (at 0 0)).departure) c.requires.times.filled_in in
    let made : instance ≡ record { trip = trip; day = c.args.day.number; calls = calls_from (c.args.day.start + time) (first_departure calls) calls } =
    c.in_ok-instance.ensures.made ∙ ap (λ (from : ℕ). record { trip = trip; day = c.args.day.number; calls = calls_from (c.args.day.start + time) from calls }) first in
    let front = repeated_from t c.args.day.start c.args.day.number trip (take i departures) in
    rw c.in_ok-push.ensures.items (record {
      listed = ap (λ (runs : List Run). runs ++ instance ∷ []) c.loop-departure.invariant.listed
          ∙ (append_assoc c.args.instances.now.items front (instance ∷ [])
          ∙ ap (λ (runs : List Run). c.args.instances.now.items ++ runs)
          (ap (λ (run : Run). front ++ run ∷ []) made ∙ sym (repeated_more t c.args.day.start c.args.day.number trip departures i c.loop-departure-test.true)));
      runs = All-push (IsRun (length t.stops)) c.loop-departure.instances.items instance c.loop-departure.invariant.runs c.in_ok-instance.ensures.run;
    })
