use Rattle.std.proofs.Common.{◌<◌, get_or, length, arith, subst}
use Rattle.stop_labels.specs.Row.{RowData}
use Rattle.rounds.specs.Layers.{IsSettled}
use Rattle.rounds.proofs.LayerLists.{round_read, each_round, rest_rounds}
use Rattle.rounds.proofs.scratch.settle_rounds.Goals as goal

pub loop-round-preserved : goal.loop-round-preserved
loop-round-preserved c =
    let i = c.loop-round.round-index in
    let mid = c.loop-round.rounds in
    let x = c.settle.new.self in
    let inv = c.loop-round.invariant in
    let inside : i < length mid = omega arith in
    let here : IsSettled (get_or mid i c.round-item.result) x = record { marks = c.settle.ensures.marks; settled = c.settle.ensures.settled } in
    record {
      settled = each_round (λ r old new. IsSettled old new) c.args.rounds.now mid i x inside inv.settled inv.rest
          (subst (λ (y : RowData). IsSettled y x) (round_read mid i c.round-item.result inside) here);
      rest = rest_rounds c.args.rounds.now mid i x inv.rest;
    }
