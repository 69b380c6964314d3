use Rattle.std.proofs.Common.{refl, true}
use Rattle.answer_lines.specs.Audits.{audit_line}
use Rattle.answer_lines.proofs.LineFacts.{line_more}
use Rattle.answer_lines.proofs.report.write_audits.Goals as goal

pub loop-audit-preserved : goal.loop-audit-preserved
loop-audit-preserved g c plain =
    let so_far = c.loop-audit.invariant plain in
    line_more _ _ _ _ audit_line _ _ _ _ _ refl c.loop-audit-test.true c.audit-item.is so_far (
    c.in_ok-writeln.ensures.writes so_far.plain (refl {a = true}))
