use Rattle.std.proofs.Common.{◌≡◌, None, map}
use Rattle.std.specs.List.{flat_map}
use Rattle.gtfs_rows.specs.Faults.{first_fault}
use Rattle.gtfs_rows.specs.Rows.{texts_in, AreApart}
use Rattle.gtfs_stops.specs.Stops.{stop_id, stop_tests}
use Rattle.gtfs_stops.proofs.stops.test_rows.Given as goal

abbrev pub invariant-loop-row : goal.invariant-loop-row
invariant-loop-row l = record {
  ids : texts_in l.ids.keys ≡ map (stop_id l.sheet) l.yielded;
  passed : first_fault (flat_map (stop_tests l.sheet) l.yielded) ≡ None;
  apart : AreApart (stop_id l.sheet) l.yielded;
}
