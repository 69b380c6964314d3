-- What words of a command with a question say: the question is there, whatever its days and times.
use Rattle.std.proofs.Common.{◌≡◌, ◌+◌, ◌*◌, ℕ, false, List, Option, ap, refl, codes, get_or, length}
use Rattle.std.proofs.Math.Dec.{eqb}
use Rattle.std.proofs.lemmas.Bool.{eqb-false}
use Rattle.clap.specs.Words.{Row, Text}
use Rattle.questions.specs.declared.question.Question.{Question}
use Rattle.option_words.specs.Questions.{HasPlaces}
use Rattle.command_line.specs.Jobs.{IsCommand, IsSearch, IsTask}
use Rattle.option_words.specs.ReachWords.{AsksMinutes}
use Rattle.option_words.specs.WorkerWords.{HasWorkers}
use Rattle.command_line.specs.declared.job.Command.{Command}
use Rattle.command_line.specs.declared.job.Command.TheVariants as commands
use Rattle.command_line.specs.declared.job.Search.{Search}
use Rattle.command_line.specs.declared.job.Search.TheVariants as searches
use Rattle.command_line.specs.declared.job.Task.{Task}
use Rattle.command_line.specs.declared.job.Task.TheVariants as tasks
use Rattle.option_words.specs.declared.minutes.Minutes.{Minutes}
use Rattle.option_words.specs.declared.workers.Workers.{Workers}

-- names of commands differ by their first letters and their lengths
abbrev mark_of : Text → ℕ
mark_of text = get_or text 0 0 * 16 + length text

pub differs : {a b : Text} → eqb (mark_of a) (mark_of b) ≡ false → a ≡ b → ⊥
differs {a} {b} differ same = eqb-false (mark_of a) (mark_of b) differ (ap mark_of same)

module _ (rows : List Row) where
  pub asks : (task : Task) → IsTask (codes "ask") rows task → (question : Question) × HasPlaces (codes "from") (codes "to") rows question
  asks (tasks.Ask question legs) h = (question, h.1.0)
  asks tasks.List h = absurd (differs refl h.0)
  asks (tasks.Audit whose) h = absurd (differs refl h.0)
  asks (tasks.Build workers progress part) h = absurd (differs refl h.0)
  asks (tasks.Migrate old progress) h = absurd (differs refl h.0)
  asks (tasks.Merge parts progress) h = absurd (differs refl h.0)

  pub rides_once : (search : Search) → IsSearch (codes "direct") rows search → (question : Question) × HasPlaces (codes "from") (codes "to") rows question
  rides_once (searches.Direct question) h = (question, h.1)
  rides_once (searches.Scan question legs) h = absurd (differs refl h.0)
  rides_once (searches.Reach question minutes) h = absurd (differs refl h.0)
  rides_once (searches.Stored store (tasks.Ask question legs)) h = absurd (differs refl h.0)
  rides_once (searches.Stored store tasks.List) h = absurd (differs refl h.0)
  rides_once (searches.Stored store (tasks.Audit whose)) h = absurd (differs refl h.0)
  rides_once (searches.Stored store (tasks.Build workers progress part)) h = absurd (differs refl h.0)
  rides_once (searches.Stored store (tasks.Migrate old progress)) h = absurd (differs refl h.0)
  rides_once (searches.Stored store (tasks.Merge parts progress)) h = absurd (differs refl h.0)

  pub scans : (search : Search) → IsSearch (codes "scan") rows search → (question : Question) × HasPlaces (codes "from") (codes "to") rows question
  scans (searches.Direct question) h = absurd (differs refl h.0)
  scans (searches.Scan question legs) h = (question, h.1.0)
  scans (searches.Reach question minutes) h = absurd (differs refl h.0)
  scans (searches.Stored store (tasks.Ask question legs)) h = absurd (differs refl h.0)
  scans (searches.Stored store tasks.List) h = absurd (differs refl h.0)
  scans (searches.Stored store (tasks.Audit whose)) h = absurd (differs refl h.0)
  scans (searches.Stored store (tasks.Build workers progress part)) h = absurd (differs refl h.0)
  scans (searches.Stored store (tasks.Migrate old progress)) h = absurd (differs refl h.0)
  scans (searches.Stored store (tasks.Merge parts progress)) h = absurd (differs refl h.0)

  pub reaches : (search : Search) → IsSearch (codes "reach") rows search
      → (question : Question) × HasPlaces (codes "from") (codes "from") rows question × ((minutes : Option Minutes) × AsksMinutes rows minutes)
  reaches (searches.Direct question) h = absurd (differs refl h.0)
  reaches (searches.Scan question legs) h = absurd (differs refl h.0)
  reaches (searches.Reach question minutes) h = (question, h.1.0, (minutes, h.1.1))
  reaches (searches.Stored store (tasks.Ask question legs)) h = absurd (differs refl h.0)
  reaches (searches.Stored store tasks.List) h = absurd (differs refl h.0)
  reaches (searches.Stored store (tasks.Audit whose)) h = absurd (differs refl h.0)
  reaches (searches.Stored store (tasks.Build workers progress part)) h = absurd (differs refl h.0)
  reaches (searches.Stored store (tasks.Migrate old progress)) h = absurd (differs refl h.0)
  reaches (searches.Stored store (tasks.Merge parts progress)) h = absurd (differs refl h.0)

  pub tables : (command : Command) → IsCommand (codes "matrix") rows command
      → (question : Question) × HasPlaces (codes "from-file") (codes "to-file") rows question × ((workers : Workers) × HasWorkers rows workers)
  tables (commands.Matrix question workers progress) h = (question, h.1.0, (workers, h.1.1))
  tables (commands.Serve store workers) h = absurd (differs refl h.0)
  tables (commands.Find (searches.Direct question)) h = absurd (differs refl h.0)
  tables (commands.Find (searches.Scan question legs)) h = absurd (differs refl h.0)
  tables (commands.Find (searches.Reach question minutes)) h = absurd (differs refl h.0)
  tables (commands.Find (searches.Stored store (tasks.Ask question legs))) h = absurd (differs refl h.0)
  tables (commands.Find (searches.Stored store tasks.List)) h = absurd (differs refl h.0)
  tables (commands.Find (searches.Stored store (tasks.Audit whose))) h = absurd (differs refl h.0)
  tables (commands.Find (searches.Stored store (tasks.Build workers progress part))) h = absurd (differs refl h.0)
  tables (commands.Find (searches.Stored store (tasks.Migrate old progress))) h = absurd (differs refl h.0)
  tables (commands.Find (searches.Stored store (tasks.Merge parts progress))) h = absurd (differs refl h.0)
