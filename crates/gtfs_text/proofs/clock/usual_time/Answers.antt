use Rattle.std.proofs.Common.{◌∙◌, Some, ap, arith}
use Rattle.gtfs_text.proofs.ClockFacts.{time_on_clock}
use Rattle.gtfs_text.proofs.clock.usual_time.Goals as goal

pub returns : goal.returns
returns c =
    time_on_clock c.args.text.now (omega (arith, c.if-text-ne8.false)) (c.is_clock.ensures c.if-not-is_clock.false)
    ∙ ap Some (omega (arith, c.pair-hours.ensures, c.pair-minutes.ensures, c.pair-seconds.ensures))
