-- Which part of the stops the words ask for.
use Rattle.std.specs.Prelude.{◌≡◌, ◌==◌, ◌<◌, List, MatchOption, Some, codes}
use Rattle.std.specs.List.{after_first, before_first}
use Rattle.clap.specs.Words.{Row, Text, first_of}
use Rattle.gtfs_text.specs.Values.{whole_of}
use Rattle.options.specs.Values.{HasText}
use Rattle.stop_parts.specs.Parts.{Share, whole}

-- The text is I/N, two whole numbers of at most nine digits: the part of number I among N parts. I is less than N, as parts are counted
-- from 0.
pub record NamesPart (text : Text) (part : Share) : Type 0 where
  pub index : whole_of (before_first (λ byte. byte == 47) text) ≡ Some part.index
  pub count : whole_of (after_first (λ byte. byte == 47) text) ≡ Some part.count
  pub below : part.index < part.count

-- that part; all stops, if the words name none
abbrev pub AsksPart : List Row → Share → Type 0
AsksPart rows part = MatchOption (first_of (codes "part") rows) (part ≡ whole) (λ text. NamesPart text part)

-- the words name this text as a part, and it names none
abbrev pub IsMisnamedPart : List Row → Text → Type 0
IsMisnamedPart rows text = HasText rows (codes "part") text × ((part : Share) → ¬ NamesPart text part)
