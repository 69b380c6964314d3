use Rattle.std.proofs.Common.{ℕ, Option, None, sym}
use Rattle.std.proofs.lemmas.Grind.{replicate_next}
use Rattle.stop_labels.proofs.labels.no_moments.Goals as goal

pub loop-preserved : goal.loop-preserved
loop-preserved c = rw (c.in_ok-push.ensures.items, c.none.ensures, c.loop.invariant) (sym (replicate_next {X = Option ℕ} c.loop.counter None))
