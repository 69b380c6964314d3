-- The dates that fields name. GTFS Schedule reference, "Field types", Date.
use Rattle.std.specs.Prelude.{◌≡◌, ◌≤◌, ℕ, Bool, true, false, List, Some, take, drop, max, min, ℤ, pos, is_some, cond, ◌==◌, ◌||◌}
use Rattle.std.specs.Int.{IsInRange}
use Rattle.std.proofs.Common.{lit≤}
use Rattle.std.proofs.Math.Facts.{yes_leb}
use Rattle.std.proofs.Math.Nat.{le-max_left, max-le, min-le_left}
use Rattle.jiff_core.specs.Calendar.{IsYear, days_in_month, is_leap_year}
use Rattle.jiff_core.specs.declared.civil.date.Date.{Date}
use Rattle.gtfs_text.specs.Values.{decimal, date_of, ymd}

-- a text names a day of the calendar
abbrev pub is_date : List ℕ → Bool
is_date text = is_some (date_of text)

-- of the numbers from `least` to `most` the one that is nearest to n
abbrev pub nearest : ℕ → ℕ → ℕ → ℕ
nearest least most n = max least (min most n)

pub nearest_is_in : (least most n : ℕ) → least ≤ most → IsInRange least most (nearest least most n)
nearest_is_in least most n some = (le-max_left least (min most n), max-le some (min-le_left most n))

pub is_year : (year : ℕ) → IsYear (pos (nearest 0 9999 year))
is_year year = (record { le = tt }, record { le = yes_leb (nearest_is_in 0 9999 year (lit≤ tt)).1 })

pub has_days : (year : ℤ) (month : ℕ) → 1 ≤ days_in_month year month
has_days year month =
    elim (month == 2) as (λ b. 1 ≤ cond b (cond (is_leap_year year) 29 28)
    (cond ((month == 4) || (month == 6) || (month == 9) || (month == 11)) 30 31)) [
      | true ↦ elim (is_leap_year year) as (λ b. 1 ≤ cond b 29 28) [ true ↦ lit≤ tt | false ↦ lit≤ tt ]
      | false ↦ elim ((month == 4) || (month == 6) || (month == 9) || (month == 11)) as (λ b. 1 ≤ cond b 30 31) [
        | true ↦ lit≤ tt
        | false ↦ lit≤ tt
      ]
    ]

-- the date of a year, a month and a day; if the calendar has no such day, each is brought to the nearest number that a date takes
unfoldable pub date_near : ℕ → ℕ → ℕ → Date
date_near year month day =
    let y = pos (nearest 0 9999 year) in
    let m = nearest 1 12 month in
    let last = days_in_month y m in
    record {
      year = y;
      month = m;
      day = nearest 1 last day;
      year_in = is_year year;
      month_in = nearest_is_in 1 12 month (lit≤ tt);
      day_in = nearest_is_in 1 last day (has_days y m);
    }

-- the date that a text spells as YYYYMMDD; what a text gives that spells no date is of no meaning
unfoldable pub date_at : List ℕ → Date
date_at text = date_near (decimal (take 4 text)) (decimal (take 2 (drop 4 text))) (decimal (drop 6 text))

-- if a text names a day of the calendar, its date has that year, month and day
abbrev pub DatesAreNamed : Type 0
DatesAreNamed = (text : List ℕ) (day : ℤ × ℕ × ℕ) → date_of text ≡ Some day → ymd (date_at text) ≡ day
