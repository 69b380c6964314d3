use Rattle.std.proofs.Common.{◌≡◌, ◌<◌, ℕ, false}
use Rattle.jiff_core.specs.declared.civil.date.Date.{Date}
use Rattle.service_days.specs.Noon.{IsDaysAfter}
use Rattle.service_span.specs.Days.{is_service_day}
use Rattle.service_span.proofs.idle.idle_of.Given as goal

abbrev pub invariant-loop-day : goal.invariant-loop-day
invariant-loop-day l = (day : ℕ) (date : Date) → day < l.day → IsDaysAfter day l.cover.first date → is_service_day l.tables date ≡ false
