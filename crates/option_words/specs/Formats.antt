-- The format that words name.
use Rattle.std.specs.Prelude.{◌≡◌, ◌⊎◌, List, None, codes}
use Rattle.clap.specs.Words.{Row, Text, first_of}
use Rattle.options.specs.Values.{HasFlag, HasText}
use Rattle.option_words.specs.declared.format.Format.TheVariants as formats
use Rattle.option_words.specs.declared.format.Style.{Style}
use Rattle.option_words.specs.declared.format.Style.TheVariants as styles

-- no format is named, or lines are
abbrev pub NamesLines : List Row → Type 0
NamesLines rows = (first_of (codes "format") rows ≡ None) ⊎ HasText rows (codes "format") (codes "lines")

-- lines, with names if the flag is there, or a format for machines by its name, of which only `reach` has CSV
abbrev pub IsStyle : Text → List Row → Style → Type 0
IsStyle name rows styles.Lines = NamesLines rows × ¬ HasFlag rows (codes "names")
IsStyle name rows (styles.Told formats.Names) = NamesLines rows × HasFlag rows (codes "names")
IsStyle name rows (styles.Told formats.Json) = HasText rows (codes "format") (codes "json")
IsStyle name rows (styles.Told formats.GeoJson) = HasText rows (codes "format") (codes "geojson")
IsStyle name rows (styles.Told formats.Csv) = HasText rows (codes "format") (codes "csv") × (name ≡ codes "reach")

-- another format is named
abbrev pub NamesNoStyle : Text → List Row → Type 0
NamesNoStyle name rows = (style : Style) → ¬ IsStyle name rows style

-- lines, or JSON
abbrev pub IsPlainStyle : List Row → Style → Type 0
IsPlainStyle rows styles.Lines = NamesLines rows
IsPlainStyle rows (styles.Told formats.Names) = ⊥
IsPlainStyle rows (styles.Told formats.Json) = HasText rows (codes "format") (codes "json")
IsPlainStyle rows (styles.Told formats.GeoJson) = ⊥
IsPlainStyle rows (styles.Told formats.Csv) = ⊥
