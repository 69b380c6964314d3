use Rattle.std.proofs.Common.{◌≡◌}
use Rattle.gtfs_rows.specs.Rows.{texts_in}
use Rattle.file_faults.specs.Lists.{Adds}
use Rattle.file_faults.specs.Seen.{call_keys}
use Rattle.file_faults.specs.Tables.{row_faults, call_row_tests}
use Rattle.file_faults.proofs.calls.list_rows.Given as goal

abbrev pub invariant-loop-row : goal.invariant-loop-row
invariant-loop-row l = record {
  list : Adds l.initial.list l.list (row_faults (call_row_tests (texts_in l.stops.keys) (texts_in l.trips.keys) l.sheet) l.yielded);
  seen : l.seen.keys ≡ call_keys (texts_in l.stops.keys) (texts_in l.trips.keys) l.sheet l.yielded;
}
