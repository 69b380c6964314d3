-- What the words of the program give.
use Rattle.std.specs.Prelude.{◌≡◌, List, [], IfOk, MatchResult, Result}
use Rattle.clap.specs.Words.{FailsBy, Text, fault_of, subcommand_of, subcommand_rows_of}
use Rattle.clap.specs.declared.error.Error.{Error}
use Rattle.clap.specs.declared.parser.matches.ArgMatches.{ArgMatches}
use Rattle.command_grammar.specs.CommandLine.{program_app}
use Rattle.command_line.specs.Jobs.{IsJob}
use Rattle.command_line.specs.Misreads.{IsUnread}
use Rattle.command_line.specs.declared.job.Job.{Job}
use Rattle.command_line.specs.declared.unread.Unread.{Unread}

-- that is what the words match of the program's command line, or their fault
pub record IsMatched (words : List Text) (matched : Result ArgMatches Error) : Type 0 where
  pub rows : IfOk matched (λ m. subcommand_rows_of m ≡ subcommand_of program_app words)
  pub faults : FailsBy (fault_of program_app words) matched

-- the words have no fault, and name this job; or this is why they name none
abbrev pub IsRead : List Text → Result Job Unread → Type 0
IsRead words read =
    MatchResult read (λ job. (fault_of program_app words ≡ []) × IsJob (subcommand_of program_app words) job)
    (IsUnread (fault_of program_app words) (subcommand_of program_app words))
