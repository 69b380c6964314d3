use Rattle.std.proofs.Common.{◌≡◌, ◌∙◌, ap, drop, subst, sym}
use Rattle.answer_lines.specs.Printing.{AppendsBut}
use Rattle.answer_lines.proofs.PrintingFacts.{behind, more_written, nothing_more}
use Rattle.answer_lines.proofs.printing.write_bytes.Goals as goal
use Rattle.answer_lines.proofs.printing.write_bytes.Goals.{in-Ok, in-Err+else-ne}

pub writes-preserved : goal.writes-preserved
writes-preserved g c =
    let old = g.W.Write.contents c.args.out.now in
    let new = g.W.Write.contents c.write.new.self in
    elim c.match-write.branch [
      | in-Ok w ↦
          let is : c.match-write.rest.now ≡ drop w.in-Ok.count c.writes.rest.now =
          ap (λ rest. rest.now) w.rest-is ∙ behind w.in-Ok.count c.writes.rest.now in
          subst (AppendsBut old new c.args.bytes.now) (sym is)
          (more_written old (g.W.Write.contents c.writes.out) new c.args.bytes.now c.writes.rest.now w.in-Ok.count c.writes.invariant w.in-Ok.ensures.bytes)
      | in-Err+else-ne w ↦
          subst (λ rest. AppendsBut old new c.args.bytes.now rest.now) (sym w.rest-is)
          (nothing_more old (g.W.Write.contents c.writes.out) new c.args.bytes.now c.writes.rest.now c.writes.invariant w.in-Err.ensures.bytes)
    ]
