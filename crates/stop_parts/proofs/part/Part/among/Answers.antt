use Rattle.std.proofs.Common.{ℕ, sym, ◌∙◌, arith}
use Rattle.stop_parts.specs.Parts.{is_of}
use Rattle.stop_parts.proofs.Counting.{counted_yes, counted_no}
use Rattle.stop_parts.proofs.part.Part.among.Goals as goal
use Rattle.stop_parts.proofs.part.Part.among.Goals.{then-has, else-has}

pub loop-stop-preserved : goal.loop-stop-preserved
loop-stop-preserved c =
    let at = c.loop-stop.invariant in
    let n : ℕ = c.loop-stop.stop in
    elim c.if-has.branch [
      | then-has w ↦
          let more = counted_yes (is_of c.args.self) n (sym c.has.ensures ∙ w.if-has.true) in
          record { count = omega (arith, w.count-is, at.count, more); few = omega (arith, w.count-is, at.few) }
      | else-has w ↦
          let same = counted_no (is_of c.args.self) n (sym c.has.ensures ∙ w.if-has.false) in
          record { count = omega (arith, w.count-is, at.count, same); few = omega (arith, w.count-is, at.few) }
    ]
