use Rattle.std.proofs.Common.{rules, ◌<◌, length, sym, ◌∙◌, ap, subst}
use Rattle.std.proofs.Math.Seq.{map-set_same}
use Rattle.part_shelf.proofs.ReadingFacts.{spot_counted}
use Rattle.part_shelf.proofs.reading.read_spot.Goals as goal

pub returns-clause-same : goal.returns-clause-same
returns-clause-same g c = λ all.
    let disks = c.args.disks.now.items in
    let part = c.args.spot.part in
    let was = c.index_mut.result.now in
    let within : part < length disks = search rules in
    let honest = subst g.D.Disk.honest (sym c.index_mut.ensures.value) (all part was within) in
    map-set_same g.D.Disk.state disks part c.read_text.new.disk was (c.read_text.ensures.same honest ∙ ap g.D.Disk.state c.index_mut.ensures.value)

pub returns-clause-counted : goal.returns-clause-counted
returns-clause-counted g c =
    let disks = c.args.disks.now.items in
    let part = c.args.spot.part in
    let was = c.index_mut.result.now in
    let within : part < length disks = search rules in
    spot_counted g.D.Disk.failures disks part was c.read_text.new.disk within c.index_mut.ensures.value c.read_text.result c.read_text.ensures.counted
