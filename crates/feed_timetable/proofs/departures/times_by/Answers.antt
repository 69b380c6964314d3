use Rattle.std.proofs.Common.{◌≡◌, ◌+◌, ◌∙◌, ap, arith, length, get_or, take, false}
use Rattle.std.specs.List.{flat_map}
use Rattle.std.proofs.lemmas.List.{length-append}
use Rattle.gtfs_rows.specs.declared.values.Frequency.{Frequency}
use Rattle.feed_timetable.specs.Departures.{departures}
use Rattle.feed_timetable.proofs.DepartureFacts.{few_departures, flat_more}
use Rattle.feed_timetable.proofs.departures.times_by.Goals as goal

pub loop-row-preserved : goal.loop-row-preserved
loop-row-preserved c =
    let d : Frequency = record { trip = 0; start = 0; end = 0; headway = 0; exact = false } in
    let rows = c.args.rows.now in
    let i = c.loop-row.row-index in
    let row = get_or rows i d in
    let is = c.requires.rows i d c.loop-row-test.true in
    let few = few_departures row is.headway in
    let end = is.end in
    let more : length (flat_map departures (take (i + 1) rows)) ≡ length (flat_map departures (take i rows)) + length (departures row) =
    ap length (flat_more departures rows i d c.loop-row-test.true) ∙ length-append (flat_map departures (take i rows)) (departures row) in
    record {
      so_far = omega (arith, c.loop-row.invariant.so_far, c.departure_count.ensures, more);
      few = omega (arith, c.loop-row.invariant.few, c.departure_count.ensures, few, end);
    }
