use Rattle.std.proofs.Common.{◌∙◌, arith}
use Rattle.gtfs_text.proofs.SpaceFacts.{more_front, front_at, front_at_end}
use Rattle.gtfs_text.proofs.spaces.without_front.Goals as goal
use Rattle.gtfs_text.proofs.spaces.without_front.Goals.{then-loop-start-test+else-text-start-eq32, else-loop-start-test}

pub loop-start-preserved : goal.loop-start-preserved
loop-start-preserved c = record {
  within = omega arith;
  same = more_front c.args.text.now c.loop-start.start c.loop-start-test.true c.if-text-start-eq32.true c.loop-start.invariant.same;
}

pub returns : goal.returns
returns c =
    c.split_at.ensures.back ∙ (elim c.loop-start-test.branch [
      | then-loop-start-test+else-text-start-eq32 w ↦ front_at c.args.text.now c.loop-start.start w.loop-start-test.true w.if-text-start-eq32.false c.loop-start.invariant.same
      | else-loop-start-test w ↦ front_at_end c.args.text.now c.loop-start.start w.loop-start-test.false c.loop-start.invariant.same
    ])
