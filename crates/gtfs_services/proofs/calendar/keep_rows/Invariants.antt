use Rattle.std.proofs.Common.{◌≡◌, None, map}
use Rattle.std.specs.List.{flat_map}
use Rattle.gtfs_rows.specs.Faults.{first_fault}
use Rattle.gtfs_rows.specs.Rows.{texts_in}
use Rattle.gtfs_services.specs.Calendar.{service_id, calendar_row_tests, calendar_row_value}
use Rattle.gtfs_services.proofs.calendar.keep_rows.Given as goal

abbrev pub invariant-loop-row : goal.invariant-loop-row
invariant-loop-row l = record {
  services : texts_in l.services.keys ≡ map (service_id l.sheet) l.yielded;
  passed : first_fault (flat_map (calendar_row_tests l.sheet) l.yielded) ≡ None;
  rows : l.rows.items ≡ map (calendar_row_value l.sheet) l.yielded;
}
