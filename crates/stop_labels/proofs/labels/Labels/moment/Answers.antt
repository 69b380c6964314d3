use Rattle.std.proofs.Common.{arith}
use Rattle.stop_labels.proofs.LabelSteps.{stop_within, moment_read}
use Rattle.stop_labels.proofs.labels.Labels.moment.Goals as goal

pub index-requires : goal.index-requires
index-requires c =
    let i = c.self.inside in
    let lt = stop_within i.arrivals.items i.labels.items c.args.self.now c.args.stop c.self.invariant c.self.view_is c.requires in
    let len = i.arrivals.ok.0 in
    omega (arith, lt, len)

pub returns : goal.returns
returns c =
    let i = c.self.inside in
    moment_read i.arrivals.items i.labels.items c.args.self.now c.args.stop c.index.result.now c.self.invariant c.self.view_is c.requires c.index.ensures
