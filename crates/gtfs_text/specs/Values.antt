-- The values that fields spell, by their types (GTFS Schedule reference, "Field types").
use Rattle.std.specs.Prelude.{Bool, ℕ, ◌+◌, ◌-◌, ◌*◌, List, length, take, drop, get_or, Option, None, Some, ℤ, pos, nat_le, if◌then◌else◌, ◌==◌, ◌&&◌}
use Rattle.std.specs.List.{list_all, fold}
use Rattle.std.specs.Char.{is_ascii_digit}
use Rattle.jiff_core.specs.Calendar.{days_in_month}
use Rattle.jiff_core.specs.declared.civil.date.Date.{Date}

-- the number that digits spell, in base ten
abbrev pub decimal : List ℕ → ℕ
decimal digits = fold (λ n digit. 10 * n + (digit - 48)) 0 digits

-- from `least` to `most` ASCII digits and nothing else
abbrev pub is_digits : ℕ → ℕ → List ℕ → Bool
is_digits least most text = nat_le least (length text) && nat_le (length text) most && list_all is_ascii_digit text

-- a "Non-negative integer", of 1 to 9 digits
abbrev pub whole_of : List ℕ → Option ℕ
whole_of text = if is_digits 1 9 text then Some (decimal text) else None

-- `:` and two digits that spell at most 59: the minutes or the seconds of a time
abbrev pub is_sixtieth : List ℕ → Bool
is_sixtieth text = (get_or text 0 0 == 58) && is_digits 2 2 (drop 1 text) && nat_le (decimal (drop 1 text)) 59

-- 1 to 3 digits of hours, at most 167, then `:MM` and `:SS`
abbrev pub is_time : List ℕ → List ℕ → List ℕ → Bool
is_time hours minutes seconds = is_digits 1 3 hours && nat_le (decimal hours) 167 && is_sixtieth minutes && is_sixtieth seconds

-- the seconds of the hours, `:MM` and `:SS` of a time
abbrev pub seconds_of : List ℕ → List ℕ → List ℕ → ℕ
seconds_of hours minutes seconds = 3600 * decimal hours + 60 * decimal (drop 1 minutes) + decimal (drop 1 seconds)

-- a "Time", in seconds from noon minus 12 hours of the service day: the hours are what stands before the last six bytes
abbrev pub time_of : List ℕ → Option ℕ
time_of text =
    let split = length text - 6 in
    if is_time (take split text) (take 3 (drop split text)) (drop (split + 3) text)
    then Some (seconds_of (take split text) (take 3 (drop split text)) (drop (split + 3) text))
    else None

-- the Gregorian calendar has this day
abbrev pub is_day : ℕ → ℕ → ℕ → Bool
is_day year month day = nat_le 1 month && nat_le month 12 && nat_le 1 day && nat_le day (days_in_month (pos year) month)

-- a date's year, month and day
abbrev pub ymd : Date → ℤ × ℕ × ℕ
ymd date = (date.year, date.month, date.day)

-- the year, month and day that these digits spell, if that is a day of the calendar
abbrev pub day_of : List ℕ → List ℕ → List ℕ → Option (ℤ × ℕ × ℕ)
day_of year month day =
    if is_digits 4 4 year && is_digits 2 2 month && is_digits 2 2 day && is_day (decimal year) (decimal month) (decimal day)
    then Some (pos (decimal year), decimal month, decimal day) else None

-- a "Date", YYYYMMDD, as its year, month and day
abbrev pub date_of : List ℕ → Option (ℤ × ℕ × ℕ)
date_of text = day_of (take 4 text) (take 2 (drop 4 text)) (drop 6 text)
