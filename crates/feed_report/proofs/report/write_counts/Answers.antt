use Rattle.std.proofs.Common.{refl}
use Rattle.std.proofs.Output.{has_written_append}
use Rattle.feed_report.specs.Reports.{counts_text}
use Rattle.feed_report.proofs.report.write_counts.Goals as goal

pub returns : goal.returns
unfolding counts_text
returns g c plain ok =
    let line1 = c.in_ok-write_places.ensures plain refl in
    let line2 = c.in_ok-write_ways.ensures line1.plain refl in
    let line3 = c.in_ok-write_service.ensures line2.plain refl in
    let line4 = c.write_left_out.ensures line3.plain ok in
    has_written_append _ _ _ _ _ _ line1 (has_written_append _ _ _ _ _ _ line2 (has_written_append _ _ _ _ _ _ line3 line4))
