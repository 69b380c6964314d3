use Rattle.std.proofs.Common.{pos, ◌+ℤ◌, ◌-ℤ◌, unsigned_abs}
use Rattle.jiff_core.specs.Date.{epoch_day}
use Rattle.service_span.proofs.ScanFacts.{NoneBefore}
use Rattle.service_span.proofs.scan.first_kept.Given as goal

abbrev pub invariant-dates : goal.invariant-dates
invariant-dates l = NoneBefore l.removed l.row l.date

abbrev pub decreases-dates : goal.decreases-dates
decreases-dates l = unsigned_abs ((epoch_day l.row.end +ℤ pos 1) -ℤ epoch_day l.date)
