-- The days that words have, as they were read.
use Rattle.std.proofs.Common.{rules, ◌≡◌, List, Option, None, Some, IfSome, IfNone, option_map, codes, sym, inr, pos}
use Rattle.jiff_core.specs.declared.civil.date.Date.{Date}
use Rattle.clap.specs.Words.{Row, Text, first_of}
use Rattle.gtfs_text.specs.Values.{date_of, ymd}
use Rattle.questions.specs.declared.question.Question.{Question}
use Rattle.option_words.specs.Days.{HasNoDate, IsNamedDay}
use Rattle.option_words.specs.Questions.{HasPlaces}
use Rattle.option_words.specs.Questions.{ArePlaces, IsDayIn, LacksDayIn}
use Rattle.option_words.specs.declared.question.Places.{Places}

-- some day
pub some_day : Date
some_day = record { year = pos 1970; month = 1; day = 1; year_in = search rules; month_in = search rules; day_in = search rules }

-- the question of these texts on some day
abbrev pub asked_on : Places → Date → Question
asked_on places day = record { from = places.from; to = places.to; day = day; seconds = 0; within = None }

pub has_places : (start goal : Text) (rows : List Row) (places : Places) (day : Date) → ArePlaces start goal rows places
    → HasPlaces start goal rows (asked_on places day)
has_places start goal rows places day are =
    record { from = are.from; to = are.to; at = (places.at.now, are.at); next = (places.next, are.next); until = are.until }

-- a day that an option names is the one that is read of its text
module _ (rows : List Row) (option : Text) (other : Date) (text : Text) (named : first_of option rows ≡ Some text) where
  pub day_read : (read : Option Date) → option_map ymd read ≡ date_of text → IfSome read (IsNamedDay rows option other)
  day_read None value = tt
  day_read (Some day) value = rw named (sym value)

  pub no_day : (read : Option Date) → option_map ymd read ≡ date_of text → IfNone read (HasNoDate rows option)
  no_day None value = (text, named, sym value)
  no_day (Some day) value = tt

-- so it is of the day to leave on, if the first covered day is one
module _ (rows : List Row) (first : Option Date) (one : Date) (is : first ≡ Some one) where
  pub leaves_on : (read : Option Date) → IfSome read (IsNamedDay rows (codes "on") one) → IfSome read (IsDayIn rows first)
  leaves_on None named = tt
  leaves_on (Some day) named = (one, is, named)

  pub leaves_on_none : (read : Option Date) → IfNone read (HasNoDate rows (codes "on")) → IfNone read (LacksDayIn rows first)
  leaves_on_none None lacks = inr ((one, is), lacks)
  leaves_on_none (Some day) lacks = tt
