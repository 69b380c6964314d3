use Rattle.std.proofs.Common.{◌+◌, arith, sym, ◌∙◌}
use Rattle.stop_labels.specs.Row.{settled_of}
use Rattle.stop_labels.proofs.RowSteps.{sooner_within}
use Rattle.stop_labels.proofs.Listed.{SeenIn, seen_next}
use Rattle.rounds.proofs.ServeSteps.{noted_none, noted_more, noted_all}
use Rattle.rounds.proofs.serving.note_all.Goals as goal

pub note-requires-clause-positions : goal.note-requires-clause-positions
note-requires-clause-positions c = c.requires.positions c.stop-item.result

pub note-requires-clause-known : goal.note-requires-clause-known
note-requires-clause-known c =
    let stop = c.stop-item.result in
    let in' = sooner_within c.args.ready.now.marks stop (settled_of c.args.ready.now stop) (c.lowered-stop-items.ensures.sooner stop (c.loop-stop.stop-index, c.loop-stop-test.true, sym c.stop-item.is)) in
    omega (arith, in', c.requires.readies)

pub note-requires-clause-ready : goal.note-requires-clause-ready
note-requires-clause-ready c =
    sooner_within c.args.ready.now.marks c.stop-item.result (settled_of c.args.ready.now c.stop-item.result)
    (c.lowered-stop-items.ensures.sooner c.stop-item.result (c.loop-stop.stop-index, c.loop-stop-test.true, sym c.stop-item.is))

pub loop-stop-init : goal.loop-stop-init
loop-stop-init c = record {
  noted = noted_none c.args.lines.now.lines c.args.ready.now c.args.before.now.marks c.lowered-stop-items.result.now c.clear.new.self;
  size = c.clear.ensures;
}

pub loop-stop-preserved : goal.loop-stop-preserved
loop-stop-preserved c =
    let listed = c.lowered-stop-items.result.now in
    let n = c.loop-stop.stop-index in
    let stop = c.stop-item.result in
    record {
      noted = noted_more c.args.lines.now.lines c.args.ready.now c.args.before.now.marks (SeenIn listed n) (SeenIn listed (n + 1)) c.loop-stop.noted c.note.new.noted stop
          (λ p seen. seen_next listed n stop p c.loop-stop-test.true c.stop-item.is seen) c.note.ensures.lower c.note.ensures.noted c.loop-stop.invariant.noted;
      size = c.note.ensures.same ∙ c.loop-stop.invariant.size;
    }

pub returns-clause-noted : goal.returns-clause-noted
returns-clause-noted c =
    noted_all c.args.lines.now.lines c.args.ready.now c.args.before.now.marks c.lowered-stop-items.result.now c.loop-stop.noted c.loop-stop.stop-index
    (omega arith) c.lowered-stop-items.ensures.others c.loop-stop.invariant.noted
