use Rattle.std.proofs.Common.{refl, true}
use Rattle.answer_lines.specs.Timed.{timed_line}
use Rattle.answer_lines.proofs.LineFacts.{line_more}
use Rattle.answer_lines.proofs.timed.TimedStopsDisplay.fmt.Goals as goal

pub loop-timed-preserved : goal.loop-timed-preserved
loop-timed-preserved g c plain =
    let so_far = c.loop-timed.invariant plain in
    line_more _ _ _ _ timed_line _ _ _ _ _ c.deref-timed-items.ensures.value c.loop-timed-test.true refl so_far (
    c.in_ok-writeln.ensures.writes so_far.plain (refl {a = true}))
