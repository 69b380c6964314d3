-- The words of a list of stops.
use Rattle.std.specs.Prelude.{◌≡◌, ◌↔◌, IsTrue, List, codes}
use Rattle.clap.specs.Words.{Row, first_of}
use Rattle.options.specs.Values.{HasFlag, HasText}
use Rattle.option_words.specs.Formats.{IsStyle}
use Rattle.std.specs.Option.{option_map}
use Rattle.option_words.specs.declared.stop_search.StopSearch.{StopSearch}

-- the words ask for these stops
pub record HasSearchedStops (rows : List Row) (search : StopSearch) : Type 0 where
  pub feed : HasText rows (codes "feed") search.feed.now
  pub text : option_map (λ text. text.now) search.text ≡ first_of (codes "text") rows
  pub all : IsTrue search.all ↔ HasFlag rows (codes "all")
  pub header : IsTrue search.header ↔ HasFlag rows (codes "header")
  pub style : IsStyle (codes "stops") rows search.style
