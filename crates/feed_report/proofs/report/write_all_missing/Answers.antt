use Rattle.std.proofs.Common.{refl}
use Rattle.std.proofs.Output.{has_written_append}
use Rattle.feed_report.specs.Reports.{missing_text}
use Rattle.feed_report.proofs.report.write_all_missing.Goals as goal

pub returns : goal.returns
unfolding missing_text
returns g c plain ok =
    let line1 = c.in_ok-write_missing.ensures plain refl in
    let line2 = c.in_ok-write_missing-2.ensures line1.plain refl in
    let line3 = c.in_ok-write_missing-3.ensures line2.plain refl in
    let line4 = c.write_missing-4.ensures line3.plain ok in
    has_written_append _ _ _ _ _ _ line1 (has_written_append _ _ _ _ _ _ line2 (has_written_append _ _ _ _ _ _ line3 line4))
