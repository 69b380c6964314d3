-- The date of a check, as it was read.
use Rattle.std.proofs.Common.{◌≡◌, List, Option, None, Some, IfSome, option_map, codes, refl, sym}
use Rattle.jiff_core.specs.declared.civil.date.Date.{Date}
use Rattle.clap.specs.Words.{Row, Text, first_of}
use Rattle.gtfs_text.specs.Values.{date_of, ymd}
use Rattle.command_line.specs.FeedWords.{IsNamedDate}

-- a date that is named is the one that is read of its text
module _ (rows : List Row) (text : Text) (named : first_of (codes "date") rows ≡ Some text) where
  pub date_read : (read : Option Date) → option_map ymd read ≡ date_of text → IfSome read (λ day. IsNamedDate rows (Some day))
  date_read None value = tt
  date_read (Some day) value = rw named (day, refl, sym value)
