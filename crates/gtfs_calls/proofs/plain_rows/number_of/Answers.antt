use Rattle.std.proofs.Common.{◌∙◌}
use Rattle.std.specs.Str.{bytes_eq}
use Rattle.gtfs_rows.proofs.TextFacts.{position-texts_in}
use Rattle.gtfs_calls.proofs.plain_rows.number_of.Goals as goal

pub returns-in_default : goal.returns-in_default
returns-in_default c = c.get_index_of.ensures.index ∙ position-texts_in c.args.texts.now.keys (bytes_eq c.args.id.now)
