use Rattle.std.proofs.Common.{◌+◌, ◌∙◌, arith, drop, refl}
use Rattle.gtfs_calls.proofs.TimeFacts.{timed-more, untimed-more, behind-timed, behind-untimed, rest-whole, filled-whole, nearer, far, near}
use Rattle.gtfs_calls.proofs.times.fill_between.Goals as goal
use Rattle.gtfs_calls.proofs.times.fill_between.Goals.{in-Some+in_ok-push, in_default+in_ok-push-2}

pub share-moment-requires : goal.share-moment-requires
share-moment-requires c =
    far c.step_back-after.result (drop (c.loop-position.position + 1) c.args.calls.now)
    (nearer c.args.calls.now c.loop-position.position _ c.loop-position.after c.step_back-after.result c.loop-position-test.true c.in_default.ensures c.loop-position.invariant.after c.step_back-after.ensures)

pub step_on-before-requires : goal.step_on-before-requires
step_on-before-requires c = near c.loop-position.before c.args.calls.now c.loop-position.position _ (omega arith) c.loop-position.invariant.before

pub loop-position-preserved : goal.loop-position-preserved
loop-position-preserved c =
    let calls = c.args.calls.now in
    let position = c.loop-position.position in
    elim c.match-times_of.branch [
      | in-Some+in_ok-push w ↦ record {
        done = rw (w.times-is, w.in_ok-push.ensures.items) (timed-more calls position _ c.loop-position.times.items w.in-Some.own c.loop-position-test.true w.in-Some.ensures c.loop-position.invariant.done);
        before = w.before-is ∙ behind-timed calls position _ w.in-Some.own c.loop-position-test.true w.in-Some.ensures;
        after = w.after-is ∙ w.nearest-after-in-Some.ensures ∙ rest-whole calls (position + 1);
      }
      | in_default+in_ok-push-2 w ↦
          let ahead = nearer calls position _ c.loop-position.after w.step_back-after.result c.loop-position-test.true w.in_default.ensures c.loop-position.invariant.after w.step_back-after.ensures in
          record {
            done = rw (w.times-is, w.in_ok-push-2.ensures.items, w.share-moment.ensures)
                (untimed-more calls position _ c.loop-position.times.items c.loop-position.before w.step_back-after.result c.loop-position-test.true w.in_default.ensures c.loop-position.invariant.before ahead c.loop-position.invariant.done);
            before = w.before-is ∙ w.step_on-before.ensures ∙ behind-untimed calls position _ c.loop-position.before c.loop-position-test.true w.in_default.ensures c.loop-position.invariant.before;
            after = w.after-is ∙ ahead;
          }
    ]

pub loop-position-init : goal.loop-position-init
loop-position-init c = record { done = c.clear.ensures.items; before = refl; after = c.nearest-after.ensures }

pub step_back-after-requires : goal.step_back-after-requires
step_back-after-requires c = far c.loop-position.after (drop c.loop-position.position c.args.calls.now) c.loop-position.invariant.after

pub returns : goal.returns
returns c = filled-whole c.args.calls.now c.loop-position.position c.loop-position.times.items (omega arith) c.loop-position.invariant.done
