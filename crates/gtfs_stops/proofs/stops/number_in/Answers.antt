use Rattle.std.proofs.Common.{◌∙◌, sym}
use Rattle.std.specs.Str.{bytes_eq}
use Rattle.gtfs_rows.proofs.TextFacts.{position-texts_in}
use Rattle.gtfs_stops.proofs.stops.number_in.Goals as goal

pub returns-in-Some : goal.returns-in-Some
returns-in-Some c = sym c.in-Some.is ∙ c.get_index_of.ensures.index ∙ position-texts_in c.args.texts.now.keys (bytes_eq c.args.text.now)

pub returns-in-None : goal.returns-in-None
returns-in-None c = sym c.in-None.is ∙ c.get_index_of.ensures.index ∙ position-texts_in c.args.texts.now.keys (bytes_eq c.args.text.now)
