-- Which stored trees the words of an audit mean.
use Rattle.std.specs.Prelude.{◌≡◌, ◌↔◌, Bool, IsTrue, List, None, MatchOption, codes}
use Rattle.clap.specs.Words.{Row, Text, first_of}
use Rattle.options.specs.Values.{HasFlag, HasText}
use Rattle.option_words.specs.WorkerWords.{HasWorkers}
use Rattle.option_words.specs.declared.audited.Audited.{Audited}
use Rattle.option_words.specs.declared.audited.Audited.TheVariants as audited
use Rattle.option_words.specs.declared.workers.Workers.{Workers}

-- that many workers audit: two, if the words don't say
abbrev pub AsksAuditors : List Row → Workers → Type 0
AsksAuditors rows workers = MatchOption (first_of (codes "workers") rows) (workers.number ≡ 2) (λ text. HasWorkers rows workers)

-- a stop is named, and none of the words is there that are for all trees
pub record NamesStop (rows : List Row) (from : Text) : Type 0 where
  pub stop : HasText rows (codes "from") from
  pub not_all : ¬ HasFlag rows (codes "all")
  pub no_progress : ¬ HasFlag rows (codes "progress")
  pub no_workers : first_of (codes "workers") rows ≡ None

-- all trees are meant, and no stop is named
pub record MeansAll (rows : List Row) (workers : Workers) (progress : Bool) : Type 0 where
  pub all : HasFlag rows (codes "all")
  pub no_stop : first_of (codes "from") rows ≡ None
  pub asks : AsksAuditors rows workers
  pub shows : IsTrue progress ↔ HasFlag rows (codes "progress")

-- the tree of one stop, or all
abbrev pub AuditsOf : List Row → Audited → Type 0
AuditsOf rows (audited.Stop from) = NamesStop rows from.now
AuditsOf rows (audited.All workers progress) = MeansAll rows workers progress
