use Rattle.std.proofs.Common.{◌<◌, ◌≤◌, length, arith, sym, subst}
use Rattle.std.proofs.lemmas.List.{length-set, get_or-set_same, get_or-set_other}
use Rattle.timetable.specs.declared.parts.TheConstants.{LATEST_MOMENT}
use Rattle.timetable.specs.Table.{stops_of}
use Rattle.timetable.specs.Journeys.{link}
use Rattle.rounds.specs.Mark.{AllEarly}
use Rattle.stop_labels.specs.Row.{settled_of}
use Rattle.rounds.specs.declared.layer.Layer.{Layer}
use Rattle.rounds.specs.Layers.{IsSized, Stepped, Changes, no_layer, layer_at}
use Rattle.rounds.proofs.MarkSteps.{rode_early}
use Rattle.rounds.proofs.DoneSteps.{changed}
use Rattle.rounds.proofs.LayerLists.{read_at}
use Rattle.rounds.proofs.scratch.change_at.Goals as goal

pub change-requires-clause-sized : goal.change-requires-clause-sized
change-requires-clause-sized c =
    let n = c.args.index in
    let layers = c.args.layers.now in
    let is = c.requires.rode in
    let low : n < length layers = (let z = is.sizes in let i = c.requires.index in omega (arith, z, i)) in
    subst (λ (y : Layer). IsSized (stops_of c.args.table.now) y) (sym (read_at layers n c.index-layers-index.result low)) is.rode.sized

pub change-requires-clause-early : goal.change-requires-clause-early
change-requires-clause-early c =
    let n = c.args.index in
    let layers = c.args.layers.now in
    let is = c.requires.rode in
    let low : n < length layers = (let z = is.sizes in let i = c.requires.index in omega (arith, z, i)) in
    subst (λ (y : Layer). AllEarly LATEST_MOMENT y.rode.marks) (sym (read_at layers n c.index-layers-index.result low))
    (rode_early c.args.table.now c.args.start.now.source c.args.start.now.depart n (layer_at layers n).rode.marks c.requires.valid is.rode.rides)

pub change-requires-clause-linked : goal.change-requires-clause-linked
change-requires-clause-linked c =
    let n = c.args.index in
    let layers = c.args.layers.now in
    let is = c.requires.rode in
    let low : n < length layers = (let z = is.sizes in let i = c.requires.index in omega (arith, z, i)) in
    subst (λ (y : Layer). Stepped (link c.args.table.now) (settled_of y.rode) y.ready.marks) (sym (read_at layers n c.index-layers-index.result low))
    (is.later n (let k : n ≤ n = omega arith in k) c.requires.index).linked

pub returns : goal.returns
returns c =
    let n = c.args.index in
    let layers = c.args.layers.now in
    let x = c.change.new.self in
    let is = c.requires.rode in
    let low : n < length layers = (let z = is.sizes in let i = c.requires.index in omega (arith, z, i)) in
    changed c.args.table.now c.args.start.now.source c.args.start.now.depart n layers _ c.args.rounds.now x c.requires.valid
    (length-set layers n x) c.requires.index
    (λ r ne. get_or-set_other layers n r x no_layer ne)
    (get_or-set_same layers n x no_layer low)
    (subst (λ (y : Layer). Changes c.args.table.now y x) (read_at layers n c.index-layers-index.result low) c.change.ensures)
    is
