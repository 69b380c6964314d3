use Rattle.std.proofs.Common.{sym}
use Rattle.gtfs_rows.specs.Faults.{first_fault}
use Rattle.gtfs_services.specs.Calendar.{calendar_row_tests}
use Rattle.file_faults.proofs.calendars.week_fault.Goals as goal

pub returns-in-Ok : goal.returns-in-Ok
returns-in-Ok c = sym c.in-Ok.ensures.0

pub returns-in-Err : goal.returns-in-Err
returns-in-Err c = c.found.ensures.found (first_fault (calendar_row_tests c.args.sheet.now c.args.row)) c.in-Err.ensures
