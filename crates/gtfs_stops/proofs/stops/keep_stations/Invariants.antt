use Rattle.std.proofs.Common.{◌≡◌, ◌++◌, map}
use Rattle.gtfs_rows.specs.Rows.{texts_in}
use Rattle.gtfs_stops.specs.Stops.{station_of}
use Rattle.gtfs_stops.proofs.stops.keep_stations.Given as goal

abbrev pub invariant-loop-id : goal.invariant-loop-id
invariant-loop-id l = l.stations.items ++ map (λ k. station_of k.now) l.id-iterator ≡ map station_of (texts_in l.ids.keys)
