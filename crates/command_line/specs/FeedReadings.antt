-- How the words of a check are read. Only private clauses cite these words.
use Rattle.std.specs.Prelude.{◌≡◌, List}
use Rattle.clap.specs.Words.{Row}
use Rattle.command_line.specs.FeedWords.{HasCheckWords}
use Rattle.command_line.specs.Misreads.{IsCheckMisread}
use Rattle.command_line.specs.declared.feed_check.FeedCheck.{FeedCheck}
use Rattle.command_line.specs.declared.unread.Unread.{Unread}
use Rattle.command_line.specs.declared.unread.Unread.TheVariants as unread

-- there is no check, or one but for its date
abbrev pub IsCheckFault : List Row → Unread → Type 0
IsCheckFault rows (unread.Shown status) = (status ≡ 2) × ((check : FeedCheck) → ¬ HasCheckWords rows check)
IsCheckFault rows (unread.BadDate style word) = IsCheckMisread word style rows
IsCheckFault rows (unread.BadTime style word) = ⊥
