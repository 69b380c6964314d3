use Rattle.std.proofs.Common.{◌≡◌, None, map}
use Rattle.std.specs.List.{flat_map}
use Rattle.gtfs_rows.specs.Faults.{first_fault}
use Rattle.gtfs_services.specs.CalendarDates.{calendar_date_tests, calendar_date_value}
use Rattle.gtfs_services.proofs.CalendarDateFacts.{parts_in, row_parts}
use Rattle.gtfs_services.proofs.calendar_dates.keep_rows.Given as goal

abbrev pub invariant-loop-row : goal.invariant-loop-row
invariant-loop-row l = record {
  dates : parts_in l.dates.keys ≡ map (row_parts l.sheet) l.yielded;
  passed : first_fault (flat_map (calendar_date_tests l.sheet) l.yielded) ≡ None;
  rows : l.rows.items ≡ map (calendar_date_value l.sheet) l.yielded;
}
