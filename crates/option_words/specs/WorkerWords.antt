-- How many workers the words ask for.
use Rattle.std.specs.Prelude.{List, Some, codes}
use Rattle.clap.specs.Words.{Row}
use Rattle.options.specs.Values.{HasNumber}
use Rattle.option_words.specs.declared.workers.Workers.{Workers}

-- the words ask for that many workers
abbrev pub HasWorkers : List Row → Workers → Type 0
HasWorkers rows workers = HasNumber 256 rows (codes "workers") (Some workers.number)

-- they don't say how many workers, or the number is out of its range
abbrev pub LacksWorkers : List Row → Type 0
LacksWorkers rows = (workers : Workers) → ¬ HasWorkers rows workers
