use Rattle.gtfs_stops.specs.Stops.{lists_in}
use Rattle.gtfs_stops.specs.Transfers.{transfer_tests}
use Rattle.file_faults.specs.Lists.{Adds}
use Rattle.file_faults.specs.Tables.{row_faults}
use Rattle.file_faults.proofs.links.list_rows.Given as goal

abbrev pub invariant-loop-row : goal.invariant-loop-row
invariant-loop-row l = Adds l.initial.list l.list (row_faults (transfer_tests (lists_in l.ids) l.sheet) l.yielded)
