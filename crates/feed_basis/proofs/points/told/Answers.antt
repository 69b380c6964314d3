use Rattle.std.proofs.Common.{subst}
use Rattle.pattern_query.specs.Answer.{PointData}
use Rattle.feed_basis.specs.Points.{Tells, TellsLeaving}
use Rattle.feed_basis.proofs.LoopFacts.{zip_more}
use Rattle.feed_basis.proofs.points.told.Goals as goal

pub loop-journey-preserved : goal.loop-journey-preserved
loop-journey-preserved c =
    let basis = c.args.basis.now in
    let Leaving = TellsLeaving basis c.args.wanted in
    let here : Leaving c.journey-item.result c.in_ok-tell.field-0 =
    subst (λ d. Tells basis d c.args.wanted c.journey-item.result c.in_ok-tell.field-0) c.departure.ensures c.in_ok-tell.ensures in
    rw c.in_ok-push.ensures.items
    (zip_more Leaving c.args.journeys.now c.loop-journey.points.items c.loop-journey.journey-index c.journey-item.result c.in_ok-tell.field-0
    c.loop-journey-test.true c.loop-journey.invariant (subst (λ (p : PointData). Leaving p c.in_ok-tell.field-0) c.journey-item.is here))
