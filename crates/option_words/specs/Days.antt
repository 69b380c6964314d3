-- The days and the times that words have.
-- GTFS Schedule, "Field types": a Date is YYYYMMDD, and a Time is HH:MM:SS or H:MM:SS of a service day.
use Rattle.std.specs.Prelude.{◌≡◌, ℕ, List, MatchOption, Some, None}
use Rattle.jiff_core.specs.declared.civil.date.Date.{Date}
use Rattle.clap.specs.Words.{Row, Text, first_of}
use Rattle.gtfs_text.specs.Values.{date_of, time_of, ymd}
use Rattle.options.specs.Values.{HasText}

-- the text is that date
abbrev pub IsDate : Text → Date → Type 0
IsDate text day = date_of text ≡ Some (ymd day)

-- the option has a text that is no date
abbrev pub HasNoDate : List Row → Text → Type 0
HasNoDate rows option = (text : Text) × HasText rows option text × (date_of text ≡ None)

-- the day that the option names, or else another one
abbrev pub IsNamedDay : List Row → Text → Date → Date → Type 0
IsNamedDay rows option other day = MatchOption (first_of option rows) (day ≡ other) (λ text. IsDate text day)

-- the option's text is that time, in seconds
abbrev pub HasTime : List Row → Text → ℕ → Type 0
HasTime rows option seconds = (text : Text) × HasText rows option text × (time_of text ≡ Some seconds)

-- the option has a text that is no time
abbrev pub HasNoTime : List Row → Text → Type 0
HasNoTime rows option = (text : Text) × HasText rows option text × (time_of text ≡ None)
