use Rattle.std.proofs.Common.{◌≡◌, ◌+◌, ◌≤◌, ◌⊎◌, ℕ, arith}
use Rattle.timetable.specs.declared.parts.TheConstants.{LATEST_MOMENT}
use Rattle.stop_labels.specs.Row.{settled_of}
use Rattle.stop_labels.proofs.Low.{at_within}
use Rattle.stop_labels.proofs.RowSteps.{same_here, same_then, same_lowered}
use Rattle.stop_labels.proofs.Listed.{SeenIn, seen_next}
use Rattle.rounds.proofs.LayerSteps.{joined_none, joined_more, joined_pass, joined_all}
use Rattle.rounds.proofs.layer.join.Goals as goal
use Rattle.rounds.proofs.layer.join.Goals.{in-Some, in_default}

pub loop-stop-init : goal.loop-stop-init
loop-stop-init c = record {
  joined = joined_none c.args.below.now.marks c.args.row.now.marks c.lowered-stop-items.result.now;
  same = same_here c.args.row.now;
}

pub loop-stop-preserved : goal.loop-stop-preserved
loop-stop-preserved c =
    let below = c.args.below.now.marks in
    let first = c.args.row.now in
    let listed = c.lowered-stop-items.result.now in
    let n = c.loop-stop.stop-index in
    let stop = c.stop-item.result in
    let row = c.loop-stop.row in
    let inv = c.loop-stop.invariant in
    let next : (p : ℕ) → SeenIn listed (n + 1) p → SeenIn listed n p ⊎ (p ≡ stop) = λ p seen. seen_next listed n stop p c.loop-stop-test.true c.stop-item.is seen in
    elim c.match-label.branch [
      | in-Some w ↦
          let label = w.in-Some.label.now in
          let here = w.in-Some.ensures.some in
          let in' = at_within below stop label here in
          let size = inv.same.size in
          rw (w.row-is, w.lower_to.ensures) (record {
            joined = joined_more below first.marks row.marks (SeenIn listed n) (SeenIn listed (n + 1)) stop label next (omega (arith, in', size, c.requires.size)) here inv.joined;
            same = same_then first row _ inv.same (same_lowered row stop label);
          })
      | in_default w ↦
          let none = c.label.ensures.none.0 (rw w.in_default.is) in
          rw w.row-is (record {
            joined = joined_pass below first.marks row.marks (SeenIn listed n) (SeenIn listed (n + 1)) stop next none inv.joined;
            same = inv.same;
          })
    ]

pub returns-clause-joined : goal.returns-clause-joined
returns-clause-joined c =
    joined_all c.args.below.now.marks c.args.row.now.marks c.loop-stop.row.marks (settled_of c.args.below.now) c.lowered-stop-items.result.now c.loop-stop.stop-index
    (omega arith) c.lowered-stop-items.ensures.others c.requires.rest c.loop-stop.invariant.joined

pub lower_to-requires-clause-early : goal.lower_to-requires-clause-early
lower_to-requires-clause-early c =
    let low : c.in-Some.label.now.arrival ≤ LATEST_MOMENT = c.requires.early c.stop-item.result c.in-Some.label.now c.in-Some.ensures.some in
    omega (arith, low)
