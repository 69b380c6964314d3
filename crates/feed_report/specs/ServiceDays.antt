-- The days of service that a report has. GTFS Schedule, calendar.txt and calendar_dates.txt.
use Rattle.std.specs.Prelude.{◌≡◌, ◌≤◌, ◌<◌, ◌+◌, ℕ, pos, ◌<ℤ◌, Option, None, Some}
use Rattle.jiff_core.specs.declared.civil.date.Date.{Date}
use Rattle.gtfs_tables.specs.Tables.{TableValues}
use Rattle.service_days.specs.Noon.{IsDaysAfter}
use Rattle.service_span.specs.Spans.{IsSpan}
use Rattle.service_span.specs.TripCounts.{AreDayTrips}
use Rattle.service_span.specs.declared.span.Span.{Span}
use Rattle.feed_report.specs.declared.service.Service.{Service}

-- From three days before the date to three days after it. Without the days before the year 0, which no text of a feed names.
pub record IsWeekAround (date first : Date) (days : ℕ) : Type 0 where
  pub before : ℕ
  pub few : before ≤ 3
  pub first_is : IsDaysAfter before first date
  pub days_is : days ≡ before + 4
  pub all : before < 3 → (earlier : Date) → IsDaysAfter 1 earlier first → earlier.year <ℤ pos 0

-- the seven days around the date; without a date the seven days from the first day of service on
abbrev pub IsWeek : Option Date → Span → Date → ℕ → Type 0
IsWeek None span first days = (first ≡ span.first) × (days ≡ 7)
IsWeek (Some date) span first days = IsWeekAround date first days

-- the first and the last day of service, and the trips of the seven days
pub record IsService (t : TableValues) (date : Option Date) (service : Service) : Type 0 where
  pub span : IsSpan t (Some service.span)
  pub first : Date
  pub days : ℕ
  pub week_is : IsWeek date service.span first days
  pub week : AreDayTrips t first days service.week.items

-- the same, or that there is no day of service
abbrev pub AreServiceDays : TableValues → Option Date → Option Service → Type 0
AreServiceDays t date None = IsSpan t None
AreServiceDays t date (Some service) = IsService t date service
