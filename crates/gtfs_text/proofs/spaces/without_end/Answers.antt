use Rattle.std.proofs.Common.{◌∙◌, arith}
use Rattle.gtfs_text.proofs.SpaceFacts.{more_end, end_at, end_at_start}
use Rattle.gtfs_text.proofs.spaces.without_end.Goals as goal
use Rattle.gtfs_text.proofs.spaces.without_end.Goals.{then-loop-end-test+else-text-end-eq32, else-loop-end-test}

pub loop-end-preserved : goal.loop-end-preserved
loop-end-preserved c = record {
  within = omega arith;
  same = more_end c.args.text.now c.loop-end.end c.loop-end-test.true c.loop-end.invariant.within c.if-text-end-eq32.true c.loop-end.invariant.same;
}

pub returns : goal.returns
returns c =
    c.split_at.ensures.front ∙ (elim c.loop-end-test.branch [
      | then-loop-end-test+else-text-end-eq32 w ↦ end_at c.args.text.now c.loop-end.end w.loop-end-test.true c.loop-end.invariant.within w.if-text-end-eq32.false c.loop-end.invariant.same
      | else-loop-end-test w ↦ end_at_start c.args.text.now c.loop-end.end w.loop-end-test.false c.loop-end.invariant.same
    ])
