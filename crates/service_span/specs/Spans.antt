-- The first and the last day of service.
use Rattle.std.specs.Prelude.{◌≡◌, Bool, true, false, Option, None, Some}
use Rattle.jiff_core.specs.declared.civil.date.Date.{Date}
use Rattle.jiff_core.specs.Calendar.{IsBetween}
use Rattle.jiff_core.specs.Date.{epoch_day}
use Rattle.gtfs_tables.specs.Tables.{TableValues}
use Rattle.service_span.specs.Days.{is_service_day}
use Rattle.service_span.specs.declared.span.Span.{Span}

-- both ends pass the test, and each date that passes lies from the first to the last
pub record IsSpanOf (passes : Date → Bool) (span : Span) : Type 0 where
  pub first : passes span.first ≡ true
  pub last : passes span.last ≡ true
  pub within : (date : Date) → passes date ≡ true → IsBetween (epoch_day span.first) (epoch_day span.last) (epoch_day date)

-- none if no date passes
abbrev pub IsSpanWhere : (Date → Bool) → Option Span → Type 0
IsSpanWhere passes None = (date : Date) → passes date ≡ false
IsSpanWhere passes (Some span) = IsSpanOf passes span

-- the first and the last day of service, or that there is none
abbrev pub IsSpan : TableValues → Option Span → Type 0
IsSpan t span = IsSpanWhere (is_service_day t) span
