use Rattle.std.proofs.Common.{◌≡◌, map}
use Rattle.gtfs_rows.specs.Rows.{texts_in, distinct}
use Rattle.gtfs_services.specs.Trips.{service_id, trip_value}
use Rattle.gtfs_services.proofs.trips.keep_trips.Given as goal

abbrev pub invariant-loop-row : goal.invariant-loop-row
invariant-loop-row l = record {
  services : texts_in l.services.keys ≡ distinct (map (service_id l.sheet) l.yielded);
  trips : l.trips.items ≡ map (trip_value l.sheet) l.yielded;
}
