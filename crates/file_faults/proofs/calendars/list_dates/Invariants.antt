use Rattle.file_faults.specs.Lists.{Adds}
use Rattle.file_faults.specs.Seen.{HasDates}
use Rattle.file_faults.specs.Tables.{row_faults, date_tests}
use Rattle.file_faults.proofs.calendars.list_dates.Given as goal

abbrev pub invariant-loop-row : goal.invariant-loop-row
invariant-loop-row l = record {
  list : Adds l.initial.list l.list (row_faults (date_tests l.sheet) l.yielded);
  dates : HasDates l.sheet l.yielded l.dates.keys;
}
