-- How a plan's words are read part by part. Only private clauses cite these words.
use Rattle.std.specs.Prelude.{◌≡◌, ◌⊎◌, List, Option, None, Some, codes}
use Rattle.jiff_core.specs.declared.civil.date.Date.{Date}
use Rattle.clap.specs.Words.{Row, Text}
use Rattle.options.specs.Values.{HasText}
use Rattle.command_line.specs.Jobs.{IsJobBy, IsOutline}
use Rattle.command_line.specs.FeedWords.{HasCheckWords}
use Rattle.command_line.specs.Misreads.{IsBadDate, IsBadTime, IsCheckMisread, IsMisread, IsWord}
use Rattle.option_words.specs.declared.format.Style.{Style}
use Rattle.command_line.specs.declared.job.Job.{Job}
use Rattle.command_line.specs.declared.job.Plan.{Plan}
use Rattle.command_line.specs.declared.unread.Unread.{Unread}
use Rattle.command_line.specs.declared.unread.Unread.TheVariants as unread
use Rattle.command_line.specs.declared.unread.Word.{Word}
use Rattle.option_words.specs.declared.word_fault.WordFault.{WordFault}
use Rattle.option_words.specs.declared.word_fault.WordFault.TheVariants as faults

-- the word is that option with its text
abbrev pub IsWordOf : List Row → Text → Word → Type 0
IsWordOf rows option word = (text : Text) → HasText rows option text → IsWord word option text

-- the word has the first covered day, of this text, if that day is none; else it has the day to leave on
abbrev pub IsDateWord : List Row → Text → Option Date → Word → Type 0
IsDateWord rows date None word = IsWord word (codes "date") date
IsDateWord rows date (Some day) word = IsWordOf rows (codes "on") word

-- what words at fault end with, in a style
abbrev pub IsUnreadOf : List Row → Text → Option Date → Style → WordFault → Unread → Type 0
IsUnreadOf rows date first style faults.NoJob why = why ≡ unread.Shown 2
IsUnreadOf rows date first style faults.BadDate why = (word : Word) × (why ≡ unread.BadDate style word) × IsDateWord rows date first word
IsUnreadOf rows date first style faults.BadLastDay why =
    (word : Word) × (why ≡ unread.BadDate style word) × IsWordOf rows (codes "until-on") word
IsUnreadOf rows date first style faults.BadTime why = (word : Word) × (why ≡ unread.BadTime style word) × IsWordOf rows (codes "at") word
IsUnreadOf rows date first style faults.BadUntil why = (word : Word) × (why ≡ unread.BadTime style word) × IsWordOf rows (codes "until") word

-- there is no plan, or no job, or one with such a fault
abbrev pub IsPlanFault : Text → List Row → Unread → Type 0
IsPlanFault name rows (unread.Shown status) = (status ≡ 2) × ((plan : Plan) → ¬ IsOutline name rows plan)
IsPlanFault name rows (unread.BadDate style word) = IsMisread (IsBadDate word) style name rows
IsPlanFault name rows (unread.BadTime style word) = IsMisread (IsBadTime word) style name rows

abbrev pub IsJobFault : Text → List Row → Unread → Type 0
IsJobFault name rows (unread.Shown status) =
    (status ≡ 2) × ((named : Job) → ¬ IsJobBy (IsOutline name rows) (HasCheckWords rows) name rows named)
IsJobFault name rows (unread.BadDate style word) =
    IsMisread (IsBadDate word) style name rows ⊎ ((name ≡ codes "check") × IsCheckMisread word style rows)
IsJobFault name rows (unread.BadTime style word) = IsMisread (IsBadTime word) style name rows
