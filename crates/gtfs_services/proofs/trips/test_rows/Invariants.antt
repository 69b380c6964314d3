use Rattle.std.proofs.Common.{◌≡◌, None, map}
use Rattle.std.specs.List.{flat_map}
use Rattle.gtfs_rows.specs.Faults.{first_fault}
use Rattle.gtfs_rows.specs.Rows.{texts_in}
use Rattle.gtfs_services.specs.Trips.{trip_id, trip_tests}
use Rattle.gtfs_services.proofs.trips.test_rows.Given as goal

abbrev pub invariant-loop-row : goal.invariant-loop-row
invariant-loop-row l = record {
  ids : texts_in l.ids.keys ≡ map (trip_id l.sheet) l.yielded;
  passed : first_fault (flat_map (trip_tests l.sheet) l.yielded) ≡ None;
}
