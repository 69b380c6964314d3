use Rattle.std.proofs.Common.{◌≡◌, map, filter}
use Rattle.gtfs_rows.specs.Rows.{texts_in, distinct}
use Rattle.gtfs_stops.specs.Stops.{stop_id, means, location_type}
use Rattle.gtfs_stops.proofs.stops.add_ids_of.Given as goal

abbrev pub invariant-loop-row : goal.invariant-loop-row
invariant-loop-row l = texts_in l.ids.keys ≡ distinct (map (stop_id l.sheet) (filter (λ row. means l.kind (location_type l.sheet row)) l.yielded))
