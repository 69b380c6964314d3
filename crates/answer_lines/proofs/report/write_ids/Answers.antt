use Rattle.std.proofs.Common.{refl, true}
use Rattle.answer_lines.specs.Reports.{id_line}
use Rattle.answer_lines.proofs.LineFacts.{line_more}
use Rattle.answer_lines.proofs.report.write_ids.Goals as goal

pub loop-id-preserved : goal.loop-id-preserved
loop-id-preserved g c plain =
    let so_far = c.loop-id.invariant plain in
    line_more _ _ _ _ (λ id. id_line c.args.front.now id.now) _ _ _ _ _ refl c.loop-id-test.true refl so_far (
    c.in_ok-writeln.ensures.writes so_far.plain (refl {a = true}))
