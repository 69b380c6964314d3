use Rattle.std.proofs.Common.{◌<◌, take}
use Rattle.std.specs.List.{All}
use Rattle.timetable.specs.Table.{stops_of}
use Rattle.told_matrix.specs.Asked.{AreStops}
use Rattle.told_matrix.proofs.asking.places_of.Given as goal

abbrev pub invariant-loop-id : goal.invariant-loop-id
invariant-loop-id l = record {
  stops : AreStops l.basis (take l.id-index l.ids) l.places.items;
  known : All (λ place. place.stop < stops_of l.basis.timetable) l.places.items;
}
