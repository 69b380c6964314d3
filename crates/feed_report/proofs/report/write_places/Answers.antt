use Rattle.std.proofs.Common.{refl}
use Rattle.std.proofs.Output.{has_written_append}
use Rattle.feed_report.specs.Reports.{places_text}
use Rattle.feed_report.proofs.report.write_places.Goals as goal

pub returns : goal.returns
unfolding places_text
returns g c plain ok =
    let line1 = c.in_ok-write_count.ensures plain refl in
    let line2 = c.in_ok-write_count-2.ensures line1.plain refl in
    let line3 = c.write_count-3.ensures line2.plain ok in
    has_written_append _ _ _ _ _ _ line1 (has_written_append _ _ _ _ _ _ line2 line3)
