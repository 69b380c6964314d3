use Rattle.std.proofs.Common.{◌≡◌, map, filter}
use Rattle.gtfs_rows.specs.Rows.{texts_in}
use Rattle.gtfs_stops.specs.Stops.{stop_among, means_stop, location_type}
use Rattle.gtfs_stops.proofs.stops.keep_stops.Given as goal

abbrev pub invariant-loop-row : goal.invariant-loop-row
invariant-loop-row l = l.stops.items ≡ map (stop_among (texts_in l.stations.keys) l.sheet) (filter (λ row. means_stop (location_type l.sheet row)) l.yielded)
