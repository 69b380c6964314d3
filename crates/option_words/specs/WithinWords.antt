-- Which connections the words of a question ask for, which only `scan` and `ask` can.
use Rattle.std.specs.Prelude.{◌≡◌, ◌≤◌, ◌^◌, ℕ, List, Option, None, Some, codes}
use Rattle.jiff_core.specs.declared.civil.date.Date.{Date}
use Rattle.clap.specs.Words.{Row, Text, first_of}
use Rattle.options.specs.Values.{HasNumber, HasText}
use Rattle.questions.specs.declared.question.Until.{Until}
use Rattle.questions.specs.declared.question.Within.{Within}
use Rattle.option_words.specs.Days.{HasTime, IsNamedDay}

-- the last time to leave at, if one is named: of the day that is named for it, or else of the day to leave on
abbrev pub IsUntilOf : List Row → Date → Option Until → Type 0
IsUntilOf rows day None = first_of (codes "until") rows ≡ None
IsUntilOf rows day (Some until) = IsNamedDay rows (codes "until-on") day until.day × HasTime rows (codes "until") until.seconds

-- that number of connections is asked for, 1 to 1,000
pub record HasNext (rows : List Row) (number : ℕ) : Type 0 where
  pub named : HasNumber (2 ^ 32) rows (codes "next") (Some number)
  pub some : 1 ≤ number
  pub few : number ≤ 1_000

-- how many, if a number is named
abbrev pub IsNextOf : List Row → Option ℕ → Type 0
IsNextOf rows None = first_of (codes "next") rows ≡ None
IsNextOf rows (Some number) = HasNext rows number

-- connections are asked for if a last time is named, or a number of them
abbrev pub within_of : Option Until → Option ℕ → Option Within
within_of None None = None
within_of None (Some number) = Some (record { until = None; next = Some number })
within_of (Some until) next = Some (record { until = Some until; next = next })

-- the connections that the words ask for, if they do
pub record IsWithinOf (rows : List Row) (day : Date) (within : Option Within) : Type 0 where
  pub until : Option Until
  pub next : Option ℕ
  pub is_until : IsUntilOf rows day until
  pub is_next : IsNextOf rows next
  pub are : within ≡ within_of until next

-- a last time is named if a day is named for it
abbrev pub NamesUntil : List Row → Type 0
NamesUntil rows = (day : Text) → HasText rows (codes "until-on") day → (time : Text) × HasText rows (codes "until") time
