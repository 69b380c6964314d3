use Rattle.std.proofs.Common.{refl, true}
use Rattle.answer_lines.specs.Reaches.{reached_line}
use Rattle.answer_lines.proofs.LineFacts.{line_more}
use Rattle.answer_lines.proofs.reach.ReachDisplay.fmt.Goals as goal

pub loop-reached-preserved : goal.loop-reached-preserved
loop-reached-preserved g c plain =
    let so_far = c.loop-reached.invariant plain in
    line_more _ _ _ _ reached_line _ _ _ _ _ c.deref-reached-items.ensures.value c.loop-reached-test.true c.reached-item.is so_far (
    c.in_ok-writeln.ensures.writes so_far.plain (refl {a = true}))
