use Rattle.std.proofs.Common.{Option, Some, List, set, arith, refl, ◌∙◌, ap}
use Rattle.stop_labels.specs.Mark.{Mark, moved}
use Rattle.stop_labels.proofs.LabelSteps.{stop_within, with_put, agreed_put}
use Rattle.stop_labels.proofs.labels.Labels.put.Goals as goal

pub index_mut-requires : goal.index_mut-requires
index_mut-requires c =
    let i = c.self.inside in
    let lt = stop_within i.arrivals.items i.labels.items c.args.self.now c.args.stop c.self.invariant c.self.view_is c.requires.known in
    let len = i.arrivals.ok.0 in
    omega (arith, lt, len)

pub index_mut-requires-2 : goal.index_mut-requires-2
index_mut-requires-2 c =
    let i = c.self.inside in
    let lt = stop_within i.arrivals.items i.labels.items c.args.self.now c.args.stop c.self.invariant c.self.view_is c.requires.known in
    let size = c.self.invariant.size in
    let len = i.labels.ok.0 in
    omega (arith, lt, size, len)

pub invariant_of-self : goal.invariant_of-self
invariant_of-self c =
    let i = c.self.inside in
    let lt = stop_within i.arrivals.items i.labels.items c.args.self.now c.args.stop c.self.invariant c.self.view_is c.requires.known in
    rw (c.of.ensures, c.set.ensures) (agreed_put i.arrivals.items i.labels.items c.args.stop c.args.arrival (moved c.args.label.now c.args.arrival c.args.ride) refl lt c.self.invariant)

pub returns : goal.returns
returns c =
    let i = c.self.inside in
    rw (c.of.ensures, c.set.ensures) (with_put i.arrivals.items i.labels.items c.args.stop c.args.arrival (moved c.args.label.now c.args.arrival c.args.ride) c.self.invariant.size
    ∙ ap (λ (ms : List (Option Mark)). set ms c.args.stop (Some (moved c.args.label.now c.args.arrival c.args.ride))) c.self.view_is)
