-- Within how many minutes the words ask for the stops that one reaches.
use Rattle.std.specs.Prelude.{◌≡◌, List, Option, None, Some, codes, ◌^◌}
use Rattle.clap.specs.Words.{Row, first_of}
use Rattle.options.specs.Values.{HasNumber}
use Rattle.option_words.specs.declared.minutes.Minutes.{Minutes}

-- no such word is there, or it has that many minutes
abbrev pub AsksMinutes : List Row → Option Minutes → Type 0
AsksMinutes rows None = first_of (codes "within") rows ≡ None
AsksMinutes rows (Some minutes) = HasNumber (2 ^ 32) rows (codes "within") (Some minutes.number)
