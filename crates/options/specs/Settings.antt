-- The settings that words give, by the options that all commands have.
use Rattle.std.specs.Prelude.{List, Some, codes, ◌^◌}
use Rattle.clap.specs.Words.{Row}
use Rattle.options.specs.Values.{HasText, HasNumber}
use Rattle.options.specs.declared.settings.Settings.{Settings}

pub record HasSettings (rows : List Row) (settings : Settings) : Type 0 where
  pub feed : HasText rows (codes "feed") settings.feed.now
  pub date : HasText rows (codes "date") settings.date.now
  pub days : HasNumber 256 rows (codes "days") (Some settings.days)
  pub zone : HasText rows (codes "zone") settings.zone.now
  pub rides : HasNumber 256 rows (codes "rides") (Some settings.rides)
  pub default_walk : HasNumber (2 ^ 32) rows (codes "default-walk") (Some settings.default_walk)

-- an option has no value, or one that is out of its range
abbrev pub LacksSettings : List Row → Type 0
LacksSettings rows = (settings : Settings) → ¬ HasSettings rows settings
