-- Which stores the words put together.
use Rattle.std.specs.Prelude.{◌≡◌, List, Some, codes}
use Rattle.std.specs.List.{All}
use Rattle.clap.specs.Words.{Row, Text, all_of}
use Rattle.options.specs.Values.{HasText}

-- the words name the files of these parts, and none of them for the store into which their trees are put
pub record PutsTogether (rows : List Row) (parts : List Text) : Type 0 where
  pub named : all_of (codes "part") rows ≡ Some parts
  pub others : All (λ part. ¬ HasText rows (codes "store") part) parts
