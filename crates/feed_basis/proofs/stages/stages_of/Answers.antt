use Rattle.std.proofs.Common.{subst}
use Rattle.feed_basis.specs.Stages.{TellsStage}
use Rattle.feed_basis.proofs.LoopFacts.{zip_more}
use Rattle.feed_basis.proofs.stages.stages_of.Goals as goal

pub loop-stage-preserved : goal.loop-stage-preserved
loop-stage-preserved c =
    let basis = c.args.basis.now in
    rw c.in_ok-push.ensures.items
    (zip_more (TellsStage basis) c.args.numbered.now c.loop-stage.stages.items c.loop-stage.stage-index c.stage-item.result c.in_ok-stage_of.field-0
    c.loop-stage-test.true c.loop-stage.invariant (subst (λ stage. TellsStage basis stage c.in_ok-stage_of.field-0) c.stage-item.is c.in_ok-stage_of.ensures))
