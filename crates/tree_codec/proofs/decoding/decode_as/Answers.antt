use Rattle.std.proofs.Common.{◌≡◌, min, arith}
use Rattle.timetable.specs.Widths.{most_stops}
use Rattle.tree_codec.proofs.decoding.decode_as.Goals as goal

pub returns-clause-read : goal.returns-clause-read
returns-clause-read g c =
    let stops : c.min-stops.result ≡ min c.args.n_stops (most_stops c.args.width) = omega (arith, c.most_stops.ensures) in
    rw (← stops) c.tree.ensures.read

pub returns-clause-fault : goal.returns-clause-fault
returns-clause-fault g c =
    let stops : c.min-stops.result ≡ min c.args.n_stops (most_stops c.args.width) = omega (arith, c.most_stops.ensures) in
    rw (← stops) c.tree.ensures.fault
