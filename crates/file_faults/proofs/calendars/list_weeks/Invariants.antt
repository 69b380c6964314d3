use Rattle.std.proofs.Common.{◌≡◌, map}
use Rattle.gtfs_rows.specs.Rows.{distinct, texts_in}
use Rattle.gtfs_services.specs.Calendar.{service_id, calendar_row_tests}
use Rattle.file_faults.specs.Lists.{Adds}
use Rattle.file_faults.specs.Tables.{row_faults}
use Rattle.file_faults.proofs.calendars.list_weeks.Given as goal

abbrev pub invariant-loop-row : goal.invariant-loop-row
invariant-loop-row l = record {
  list : Adds l.initial.list l.list (row_faults (calendar_row_tests l.sheet) l.yielded);
  services : texts_in l.services.keys ≡ distinct (map (service_id l.sheet) l.yielded);
}
