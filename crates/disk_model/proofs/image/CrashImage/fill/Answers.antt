use Rattle.std.proofs.Common.{◌+◌, ◌-◌, ◌<◌, length, ◌++◌, ℕ, Vec, arith, sym, ◌∙◌, ap, rules, drop, ◌∷◌, []}
use Rattle.std.specs.declared.alloc.Global.{Global}
use Rattle.disk_model.specs.Crash.{filled_bytes}
use Rattle.disk_model.specs.CrashImage.{image_of}
use Rattle.std.proofs.lemmas.Grind.{get_or_default_zero}
use Rattle.disk_model.proofs.Covered.{closed_below}
use Rattle.disk_model.proofs.Filled.{open_count-open, open_count-closed, one_open, one_closed}
use Rattle.disk_model.proofs.image.CrashImage.fill.Goals as goal
use Rattle.disk_model.proofs.image.CrashImage.fill.Goals.{then-is_open+in_ok-push, else-is_open+in_ok-push-2}

pub bounds-fill-used : goal.bounds-fill-used
bounds-fill-used c =
    let is = sym c.is_open.ensures ∙ c.if-is_open.true in
    omega (arith, c.loop-place.invariant.enough, open_count-open (image_of c.args.self.now) c.loop-place.place c.args.len c.loop-place-test.true is)

pub loop-place-preserved : goal.loop-place-preserved
loop-place-preserved c = elim c.if-is_open.branch [
  | then-is_open+in_ok-push w ↦
      let is = sym c.is_open.ensures ∙ w.if-is_open.true in
      let one = open_count-open (image_of c.args.self.now) c.loop-place.place c.args.len c.loop-place-test.true is in
      let more = ap (λ (v : Vec ℕ Global). v.items) w.bytes-is ∙ w.in_ok-push.ensures.items in
      record {
        enough = omega (arith, one, c.loop-place.invariant.enough);
        made =
            ap (λ (k : ℕ). c.if-is_open.bytes.items ++ filled_bytes (image_of c.args.self.now) (c.loop-place.place + 1) (c.args.len - (c.loop-place.place + 1)) (drop k c.args.fill.now)) w.used-is
            ∙ one_open (image_of c.args.self.now) c.loop-place.place c.args.len c.loop-place.used c.args.fill.now c.loop-place.bytes.items c.if-is_open.bytes.items _ c.loop-place-test.true is c.loop-place.invariant.made more;
      }
  | else-is_open+in_ok-push-2 w ↦
      let shut = sym c.is_open.ensures ∙ w.if-is_open.false in
      let none = open_count-closed (image_of c.args.self.now) c.loop-place.place c.args.len c.loop-place-test.true shut in
      let below : c.loop-place.place < length c.args.self.now.synced.items =
      (let least = closed_below (image_of c.args.self.now) c.loop-place.place shut in search rules) in
      let byte = w.index.ensures ∙ get_or_default_zero c.args.self.now.synced.items c.loop-place.place w.index.result.now below in
      let more = ap (λ (v : Vec ℕ Global). v.items) w.bytes-is ∙ w.in_ok-push-2.ensures.items ∙ ap (λ (b : ℕ). c.loop-place.bytes.items ++ b ∷ []) byte in
      record {
        enough = omega (arith, none, c.loop-place.invariant.enough);
        made =
            ap (λ (k : ℕ). c.if-is_open.bytes.items ++ filled_bytes (image_of c.args.self.now) (c.loop-place.place + 1) (c.args.len - (c.loop-place.place + 1)) (drop k c.args.fill.now)) w.used-is
            ∙ one_closed (image_of c.args.self.now) c.loop-place.place c.args.len c.loop-place.used c.args.fill.now c.loop-place.bytes.items c.if-is_open.bytes.items _ c.loop-place-test.true shut c.loop-place.invariant.made more;
      }
]
