-- From which file to which the words take a store over.
use Rattle.std.specs.Prelude.{List, codes}
use Rattle.clap.specs.Words.{Row, Text}
use Rattle.options.specs.Values.{HasText}

-- the words name the file of the version before, and not the same one for the new store
pub record TakesOver (rows : List Row) (old : Text) : Type 0 where
  pub store : HasText rows (codes "store") old
  pub other : ¬ HasText rows (codes "to") old
