use Rattle.std.proofs.Common.{◌≤◌, drop, length}
use Rattle.std.specs.List.{filter_map}
use Rattle.gtfs_rows.specs.Faults.{first_fault}
use Rattle.gtfs_calls.specs.TripTests.{calls_by_trip, trip_tests}
use Rattle.gtfs_calls.proofs.TripFacts.{IsRest}
use Rattle.file_faults.specs.Lists.{Adds}
use Rattle.file_faults.proofs.calls.list_sorted.Given as goal

abbrev pub invariant-loop-trip : goal.invariant-loop-trip
invariant-loop-trip l = record {
  list : Adds l.initial.list l.list (filter_map (λ calls. first_fault (trip_tests calls)) (calls_by_trip l.calls l.trip));
  rest : IsRest l.calls l.trip (drop l.start l.calls);
  within : l.start ≤ length l.calls;
}
