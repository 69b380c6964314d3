-- What is remembered of a content that is being built. Only private clauses cite these words.
use Rattle.std.specs.Prelude.{Option, List}
use Rattle.std.specs.List.{All, Contains}
use Rattle.std.specs.Option.{IfSome}
use Rattle.pattern_tree.specs.Forest.{Pair}
use Rattle.pattern_building.specs.declared.latest.Known.{Known}
use Rattle.pattern_building.specs.declared.latest.Latest.{Latest}
use Rattle.pattern_building.specs.declared.latest.Place.{Place}

-- the pair, if there is one, is in the content
abbrev pub IsIn : List Pair → Option Known → Type 0
IsIn content pair = IfSome pair (λ known. Contains content (known.path.items, known.end))

-- each pair that is remembered is in the content
abbrev pub AreIn : List Pair → Latest → Type 0
AreIn content latest = All (λ (place : Place). IsIn content place.last × IsIn content place.earlier) latest.places.items
