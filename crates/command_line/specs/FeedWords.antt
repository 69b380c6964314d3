-- The words of commands over a feed as a whole, which take no covered days.
use Rattle.std.specs.Prelude.{◌≡◌, ◌↔◌, IsTrue, List, Option, None, Some, MatchOption, codes}
use Rattle.jiff_core.specs.declared.civil.date.Date.{Date}
use Rattle.clap.specs.Words.{Row, first_of}
use Rattle.options.specs.Values.{HasFlag, HasText}
use Rattle.option_words.specs.Days.{IsDate}
use Rattle.option_words.specs.Formats.{IsPlainStyle}
use Rattle.command_line.specs.declared.feed_check.FeedCheck.{FeedCheck}

-- the words of a check, whatever date they say
pub record HasCheckWords (rows : List Row) (check : FeedCheck) : Type 0 where
  pub feed : HasText rows (codes "feed") check.feed.now
  pub all : IsTrue check.all ↔ HasFlag rows (codes "all")
  pub style : IsPlainStyle rows check.style

-- the date that the words name, if they name one
abbrev pub IsNamedDate : List Row → Option Date → Type 0
IsNamedDate rows date =
    MatchOption (first_of (codes "date") rows) (date ≡ None) (λ text. (day : Date) × (date ≡ Some day) × IsDate text day)

-- the words ask for this check
abbrev pub IsCheck : List Row → FeedCheck → Type 0
IsCheck rows check = HasCheckWords rows check × IsNamedDate rows check.date
