use Rattle.std.proofs.Common.{ℕ, ◌++◌, List, get_or, sym, ◌∙◌, ap, take, append_assoc}
use Rattle.std.specs.Option.{option_to_list}
use Rattle.gtfs_tables.specs.Tables.{calls_of}
use Rattle.gtfs_calls.specs.Times.{at}
use Rattle.gtfs_calls.specs.declared.times.CallTimes.{CallTimes}
use Rattle.timetable.specs.Table.{Run}
use Rattle.feed_timetable.specs.Instances.{calls_from, calls_left, run_before}
use Rattle.feed_timetable.specs.Running.{repeated_before}
use Rattle.feed_timetable.proofs.BeforeFacts.{repeated_before_more}
use Rattle.feed_timetable.proofs.before.list_repeated.Goals as goal

pub loop-time-preserved : goal.loop-time-preserved
loop-time-preserved c =
    let t = c.args.tables.now in
    let trip = c.args.trip in
    let calls = calls_of t trip in
    let departures = c.args.departures.now in
    let i = c.loop-time.time-index in
    let time = get_or departures i 0 in
    let front = repeated_before t c.args.before trip (take i departures) in
    let one : ℕ → List Run = λ from. option_to_list (run_before trip (calls_left c.args.before (calls_from time from calls))) in
    let first = ap (λ (ts : List CallTimes). (get_or ts 0 (at 0 0)).departure) c.requires.times.filled_in in
    record {
      listed = c.in_ok-list_left.ensures.listed
          ∙ (ap (λ (runs : List Run). runs ++ one (get_or c.args.times.now 0 (at 0 0)).departure) c.loop-time.invariant.listed
          ∙ (append_assoc c.args.instances.now.items front (one (get_or c.args.times.now 0 (at 0 0)).departure)
          ∙ ap (λ (runs : List Run). c.args.instances.now.items ++ runs)
          (ap (λ (from : ℕ). front ++ one from) first ∙ sym (repeated_before_more t c.args.before trip departures i c.loop-time-test.true))));
      runs = c.in_ok-list_left.ensures.runs;
    }
