-- Whether some trip runs on the covered days.
use Rattle.std.specs.Prelude.{◌≡◌, ℕ, true, false, Option, None, Some}
use Rattle.jiff_core.specs.declared.civil.date.Date.{Date}
use Rattle.gtfs_tables.specs.Tables.{TableValues}
use Rattle.service_days.specs.Cover.{CoverDays, IsCovered}
use Rattle.service_span.specs.Days.{is_service_day}
use Rattle.service_span.specs.Spans.{IsSpan}
use Rattle.service_span.specs.declared.idle.Idle.{Idle}

-- none if some covered day is a day of service; else no covered day is, and the span is that of all days of service
abbrev pub IsIdle : TableValues → CoverDays → Option Idle → Type 0
IsIdle t c None = (day : ℕ) × (date : Date) × IsCovered c day date × (is_service_day t date ≡ true)
IsIdle t c (Some idle) = ((day : ℕ) (date : Date) → IsCovered c day date → is_service_day t date ≡ false) × IsSpan t idle.span
