use Rattle.std.proofs.Common.{arith}
use Rattle.gtfs_calls.proofs.TimeFacts.{filled-whole, timed-more}
use Rattle.gtfs_calls.proofs.times.put_written.Goals as goal

pub loop-call-preserved : goal.loop-call-preserved
loop-call-preserved c =
    rw c.in_ok-push.ensures.items (timed-more c.args.calls.now c.loop-call.call-index _ c.loop-call.times.items c.in-Some.own c.loop-call-test.true c.in-Some.ensures c.loop-call.invariant)

pub returns : goal.returns
returns c is = filled-whole c.args.calls.now c.loop-call.call-index c.loop-call.times.items (omega arith) c.loop-call.invariant
