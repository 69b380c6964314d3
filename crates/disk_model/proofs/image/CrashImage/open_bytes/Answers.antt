use Rattle.std.proofs.Common.{arith, sym, ◌∙◌}
use Rattle.disk_model.specs.CrashImage.{image_of}
use Rattle.disk_model.proofs.Filled.{open_count-open, open_count-closed}
use Rattle.disk_model.proofs.image.CrashImage.open_bytes.Goals as goal
use Rattle.disk_model.proofs.image.CrashImage.open_bytes.Goals.{then-is_open, else-is_open}

pub loop-place-preserved : goal.loop-place-preserved
loop-place-preserved c = elim c.if-is_open.branch [
  | then-is_open w ↦
      let one = open_count-open (image_of c.args.self.now) c.loop-place.place c.args.len c.loop-place-test.true (sym c.is_open.ensures ∙ w.if-is_open.true) in
      record { few = omega arith; counted = omega (arith, one, c.loop-place.invariant.counted) }
  | else-is_open w ↦
      let none = open_count-closed (image_of c.args.self.now) c.loop-place.place c.args.len c.loop-place-test.true (sym c.is_open.ensures ∙ w.if-is_open.false) in
      record { few = omega arith; counted = omega (arith, none, c.loop-place.invariant.counted) }
]
