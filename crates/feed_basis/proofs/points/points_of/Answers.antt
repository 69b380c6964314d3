use Rattle.std.proofs.Common.{refl, rules}
use Rattle.feed_basis.specs.Points.{TellsNumbers}
use Rattle.feed_basis.proofs.LoopFacts.{zip_more}
use Rattle.feed_basis.proofs.points.points_of.Goals as goal

pub loop-numbers-preserved : goal.loop-numbers-preserved
loop-numbers-preserved c =
    rw c.in_ok-push.ensures.items
    (zip_more (TellsNumbers c.args.basis.now) c.args.front.now c.loop-numbers.points.items c.loop-numbers.numbers-index (record { arrival = 0; rides = 0 }) _
    c.loop-numbers-test.true c.loop-numbers.invariant (record { rides = refl; at = c.day_time.ensures; untold = search rules }))
