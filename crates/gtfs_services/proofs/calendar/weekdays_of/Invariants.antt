use Rattle.std.proofs.Common.{◌≡◌, length, map, take, Some}
use Rattle.gtfs_rows.specs.Rows.{text_under}
use Rattle.gtfs_services.specs.Calendar.{weekdays_in}
use Rattle.gtfs_services.proofs.calendar.weekdays_of.Given as goal

abbrev pub invariant-loop-day : goal.invariant-loop-day
invariant-loop-day l = record {
  seven : length l.weekdays ≡ 7;
  so_far : weekdays_in (map (λ column. text_under l.sheet column l.row) (take l.day l.columns)) ≡ Some (take l.day l.weekdays);
}
