use Rattle.std.proofs.Common.{◌+◌, arith, false}
use Rattle.gtfs_rows.specs.declared.values.Frequency.{Frequency}
use Rattle.feed_timetable.specs.Counting.{weight_at, call_weight_at}
use Rattle.feed_timetable.proofs.CountingFacts.{rows_sum_le, rows_sum_more}
use Rattle.feed_timetable.proofs.before_counts.with_rows.Goals as goal

pub returns-in_err-more-clause-counted : goal.returns-in_err-more-clause-counted
returns-in_err-more-clause-counted c = λ calls are.
    let d : Frequency = record { trip = 0; start = 0; end = 0; headway = 0; exact = false } in
    let rows = c.args.rows.now in
    let i = c.loop-row.row-index in
    let w = weight_at c.args.before c.args.first calls in
    let so_far = (c.loop-row.invariant.so_far calls are).instances_are in
    rw c.from_residual.ensures (omega (arith, c.in_err-more.ensures.counted calls are, so_far, rows_sum_more w rows i d c.loop-row-test.true, rows_sum_le w rows (i + 1)))

pub loop-row-preserved : goal.loop-row-preserved
loop-row-preserved c = record {
  few = c.in_ok-more.ensures.few;
  so_far = λ calls are.
      let d : Frequency = record { trip = 0; start = 0; end = 0; headway = 0; exact = false } in
      let rows = c.args.rows.now in
      let i = c.loop-row.row-index in
      let so_far = c.loop-row.invariant.so_far calls are in
      let more = c.in_ok-more.ensures.counted calls are in
      record {
        instances_are = omega (arith, more.instances_are, so_far.instances_are, rows_sum_more (weight_at c.args.before c.args.first calls) rows i d c.loop-row-test.true);
        calls_are = omega (arith, more.calls_are, so_far.calls_are, rows_sum_more (call_weight_at c.args.before c.args.first calls) rows i d c.loop-row-test.true);
        few = more.few;
      };
}
