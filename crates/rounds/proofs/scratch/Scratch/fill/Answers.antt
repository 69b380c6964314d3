use Rattle.std.proofs.Common.{◌≡◌, List, length, map, refl, sym, ◌∙◌, ap}
use Rattle.timetable.specs.Table.{stops_of}
use Rattle.rounds.specs.declared.layer.Layer.{Layer}
use Rattle.stop_labels.specs.Row.{RowData}
use Rattle.rounds.specs.Mark.{arrival_in, moment_in}
use Rattle.rounds.proofs.DoneSteps.{marks_in, done_kept, done_rounds}
use Rattle.stop_labels.proofs.Listed.{whole_of}
use Rattle.rounds.proofs.KeptSteps.{kept_earlier}
use Rattle.rounds.proofs.ScratchSteps.{alike_of, same_stops, kept_moved, rounds_moved, told, layers_sized, rounds_sized, sized_moved, sizes_moved}
use Rattle.rounds.proofs.scratch.Scratch.fill.Goals as goal

pub returns-clause-on : goal.returns-clause-on
returns-clause-on c =
    let T = c.args.table.now in
    let old = c.args.self.now in
    let is = c.requires.table in
    let size = length {A = Layer} in
    let size' = length {A = RowData} in
    let e1 = c.deref_mut.ensures.value in
    let e3 = c.deref_mut-2.ensures.value in
    let layers = c.run_layers.new.layers in
    let rounds = c.run_layers.new.rounds in
    let n = length c.deref_mut-2.result.now in
    let w = whole_of old.layers.len layers old.layers.items c.deref_mut.result.now e1 c.deref_mut.ensures.len c.run_layers.auto.layers in
    let w3 = whole_of old.rounds.len rounds old.rounds.items c.deref_mut-2.result.now e3 c.deref_mut-2.ensures.len c.run_layers.auto.rounds in
    let all : n ≡ length rounds = sym c.run_layers.auto.rounds in
    let done = c.run_layers.ensures.rode in
    let sized = layers_sized T old.source c.args.depart n layers rounds all done in
    let sizes = rounds_sized T old.source c.args.depart n layers rounds all done in
    record {
      same = alike_of old _ refl refl
          (ap size w ∙ (c.run_layers.auto.layers ∙ ap size e1))
          (λ stops every some. sized_moved (stops_of T) stops _ layers (same_stops (stops_of T) stops old.layers.items some is.sized every) w sized)
          c.run_layers.ensures.same
          (ap size' w3 ∙ (c.run_layers.auto.rounds ∙ ap size' e3))
          (λ stops some every _. sizes_moved (stops_of T) stops _ rounds (same_stops (stops_of T) stops old.layers.items some is.sized every) w3 sizes);
      source = refl;
      kept = λ d le valid. kept_moved T old.source d _ layers _ rounds w w3
          (kept_earlier T old.source d c.args.depart layers rounds le (done_kept T old.source c.args.depart n layers rounds all done));
      right = rounds_moved T old.source c.args.depart old.rides n _ rounds
          (sym (ap size' e3 ∙ is.count)) w3 (done_rounds T old.source c.args.depart n layers rounds all sizes done);
    }

pub returns-clause-before : goal.returns-clause-before
returns-clause-before c = λ rides t.
    let old = c.args.self.now in
    let rounds = c.run_layers.new.rounds in
    let e3 = c.deref_mut-2.ensures.value in
    let w3 = whole_of old.rounds.len rounds old.rounds.items c.deref_mut-2.result.now e3 c.deref_mut-2.ensures.len c.run_layers.auto.rounds in
    ap (λ (xs : List RowData). moment_in (map (λ (row : RowData). row.settled) xs) rides t) w3
    ∙ (told c.deref_mut-2.result.now rounds c.run_layers.auto.rounds c.run_layers.ensures.settled rides t
    ∙ ap (λ (xs : List RowData). arrival_in (marks_in xs) rides t) e3)

pub run_layers-requires-clause-source : goal.run_layers-requires-clause-source
run_layers-requires-clause-source c = c.requires.source

pub run_layers-requires-clause-early : goal.run_layers-requires-clause-early
run_layers-requires-clause-early c = c.requires.early
