use Rattle.std.proofs.Common.{◌≤◌, get_or, arith, refl, le_refl}
use Rattle.std.proofs.lemmas.Option.{slice_get-get_or}
use Rattle.lines.specs.declared.line.Halt.{Halt}
use Rattle.least_walks.proofs.RideFacts.{halts_none, halts_more, halts_all}
use Rattle.least_walks.proofs.boarding.add_line.Goals as goal

pub loop-position-init : goal.loop-position-init
loop-position-init c = record {
  from = le_refl c.args.first;
  rides = halts_none c.args.network.now c.args.board c.args.bound c.args.alights.now c.args.halts.now c.args.first c.args.ways.now;
}

pub loop-position-preserved : goal.loop-position-preserved
loop-position-preserved c =
    let i = c.loop-position.position in
    let halts = c.args.halts.now in
    let from : c.args.first ≤ i = c.loop-position.invariant.from in
    let halt : Halt = get_or halts i c.index-halts-position.result in
    record {
      from = omega (arith, from);
      rides = halts_more c.args.network.now c.args.board c.args.bound c.args.alights.now halts c.args.first i halt.stop halt c.row_at-row.result.now c.args.ways.now c.loop-position.ways
          c.add_rides.new.ways from (slice_get-get_or halts i c.index-halts-position.result (omega arith)) refl c.row_at-row.ensures c.loop-position.invariant.rides
          c.in_ok-add_rides.ensures;
    }

pub returns : goal.returns
returns c =
    halts_all c.args.network.now c.args.board c.args.bound c.args.alights.now c.args.halts.now c.args.first c.loop-position.position c.args.ways.now c.loop-position.ways
    (omega arith) c.loop-position.invariant.rides
