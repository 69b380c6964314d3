use Rattle.std.proofs.Common.{◌≡◌, map}
use Rattle.gtfs_rows.specs.Rows.{distinct, texts_in}
use Rattle.gtfs_stops.specs.Stops.{stop_id, stop_tests}
use Rattle.file_faults.specs.Lists.{Adds}
use Rattle.file_faults.specs.Tables.{row_faults}
use Rattle.file_faults.proofs.stops.list_rows.Given as goal

abbrev pub invariant-loop-row : goal.invariant-loop-row
invariant-loop-row l = record {
  list : Adds l.initial.list l.list (row_faults (stop_tests l.sheet) l.yielded);
  ids : texts_in l.ids.keys ≡ distinct (map (stop_id l.sheet) l.yielded);
}
