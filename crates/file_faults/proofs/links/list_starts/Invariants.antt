use Rattle.std.proofs.Common.{◌≡◌}
use Rattle.gtfs_rows.specs.Rows.{texts_in}
use Rattle.file_faults.specs.Lists.{Adds}
use Rattle.file_faults.specs.Seen.{start_keys}
use Rattle.file_faults.specs.Tables.{row_faults, start_tests}
use Rattle.file_faults.proofs.links.list_starts.Given as goal

abbrev pub invariant-loop-row : goal.invariant-loop-row
invariant-loop-row l = record {
  list : Adds l.initial.list l.list (row_faults (start_tests (texts_in l.trips.keys) l.sheet) l.yielded);
  seen : l.seen.keys ≡ start_keys (texts_in l.trips.keys) l.sheet l.yielded;
}
