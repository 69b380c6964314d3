-- What the program leaves, from its words on.
use Rattle.std.specs.Prelude.{◌≡◌, ◌⊎◌, ℕ, List, [], Option, None, Result, Ok, Err}
use Rattle.clap.specs.Words.{Text, fault_of, subcommand_of}
use Rattle.gtfs_tables.specs.Feed.{Feed}
use Rattle.command_grammar.specs.CommandLine.{program_app}
use Rattle.command_line.specs.Jobs.{IsJob}
use Rattle.command_line.specs.Misreads.{IsUnread}
use Rattle.command_line.specs.declared.job.Job.{Job}
use Rattle.command_line.specs.declared.job.Job.TheVariants as jobs
use Rattle.option_words.specs.declared.format.Style.{Style}
use Rattle.command_line.specs.declared.unread.Unread.{Unread}
use Rattle.command_line.specs.declared.unread.Unread.TheVariants as unread
use Rattle.command_line.specs.declared.unread.Word.{Word}
use Rattle.printing.specs.Finished.{IsFaulted, IsFinished, IsShown, IsWritten, StreamsData}
use Rattle.printing.specs.declared.fault.Voice.{Voice}
use Rattle.printing.specs.declared.told.Told.{Told}
use Rattle.printing.specs.declared.told.Told.TheVariants as tolds
use Rattle.faults.specs.declared.fault.Fault.{Fault}
use Rattle.faults.specs.declared.fault.Fault.TheVariants.{BadDate, BadTime, Memory}
use Rattle.command_line.specs.Given.{folder_given, word_given}
use Rattle.printing.specs.Tellings.{Telling}
use Rattle.feed_commands.specs.Checks.{AreStops, IsFolderChecked}
use Rattle.printing.specs.Faults.{voice_of}
use Rattle.commands.specs.Runs.{IsPlanRun}
use Rattle.commands.specs.Left.{Stored}
use Rattle.program_system.specs.World.{SystemView}
use denote.Ref.{Bor}

-- in that style, of the word that is at fault
abbrev pub word_voice : Style → Word → Voice
word_voice style word = record { style = style; given = word_given word }

-- What comes of words that give no job: a text is shown, help on standard output, a fault of the words on standard error. Or the fault of
-- a day or of a time is said, of the word that has it.
abbrev pub IsRefused : Telling → Unread → StreamsData → StreamsData → ℕ → Type 0
IsRefused t (unread.Shown meant) old new status = (text : List ℕ) × IsShown text meant old new status
IsRefused t (unread.BadDate style word) old new status = IsFaulted t (word_voice style word) BadDate old new status
IsRefused t (unread.BadTime style word) old new status = IsFaulted t (word_voice style word) BadTime old new status

-- the words give no job for this cause: help was asked for, or there is a fault of words, or memory ran out
pub record IsNoJob (t : Telling) (words : List Text) (old new : StreamsData) (status : ℕ) : Type 0 where
  pub why : Unread
  pub is : IsUnread (fault_of program_app words) (subcommand_of program_app words) why
  pub refused : IsRefused t why old new status

-- the words give this job, with its days and its time, and nothing in them is at fault
pub record NameJob (words : List Text) (job : Job) : Type 0 where
  pub faultless : fault_of program_app words ≡ []
  pub is : IsJob (subcommand_of program_app words) job

-- this is reported, or its fault, and no store was opened
pub record IsPlainRun {D : Type 0} (t : Telling) (voice : Voice) (told : Result Told Fault) (old new : StreamsData) (status : ℕ)
    (disk : Option D) : Type 0 where
  pub finished : IsFinished t voice told old new status
  pub none : disk ≡ None

-- in that style, over the feed in that folder
abbrev pub folder_voice : Style → Bor (List ℕ) → Voice
folder_voice style feed = record { style = style; given = folder_given feed }

-- the faults and the statuses are printed, and no store was opened
abbrev pub AreFaultsListed : {D : Type 0} → StreamsData → StreamsData → ℕ → Option D → Type 0
AreFaultsListed old new status disk = IsWritten tolds.Faults old new status × (disk ≡ None)

-- What a job leaves, whatever feed its folder holds. Memory may run out as the files of the feed are opened.
abbrev pub IsJobRun : {D : Type 0} → SystemView → Stored D → Option (List ℕ) → Job → StreamsData → StreamsData → ℕ → Option D → Type 0
IsJobRun v stored input jobs.Faults old new status disk = AreFaultsListed old new status disk
IsJobRun v stored input (jobs.Check check) old new status disk =
    (told : Result Told Fault) × IsPlainRun v.telling (folder_voice check.style check.feed) told old new status disk
    × IsFolderChecked v.world v.telling check told
IsJobRun v stored input (jobs.Stops search) old new status disk =
    (told : Result Told Fault) × IsPlainRun v.telling (folder_voice search.style search.feed) told old new status disk
    × AreStops v.telling search told
IsJobRun v stored input (jobs.Plan plan) old new status disk =
    IsPlainRun v.telling (voice_of plan) (Err Memory) old new status disk
    ⊎ ((feed : Feed) → v.world.holds plan.settings.feed.now feed → IsPlanRun v stored input feed plan old new status disk)

-- what comes of words that were read as a job, or as none for that cause
abbrev pub IsReadRun : {D : Type 0} → SystemView → Stored D → Option (List ℕ) → Result Job Unread → StreamsData → StreamsData → ℕ → Option D → Type 0
IsReadRun v stored input (Ok job) old new status disk = IsJobRun v stored input job old new status disk
IsReadRun v stored input (Err why) old new status disk = IsRefused v.telling why old new status × (disk ≡ None)

-- These words, over the bytes of standard input, if they are known, and over what the system has, leave this on both streams, this status
-- and this disk. What a command over a store leaves is said by those who do it.
abbrev pub IsProgramRun : {D : Type 0} → SystemView → Stored D → Option (List ℕ) → List Text → StreamsData → StreamsData → ℕ → Option D → Type 0
IsProgramRun v stored input words old new status disk =
    (IsNoJob v.telling words old new status × (disk ≡ None))
    ⊎ ((job : Job) × NameJob words job × IsJobRun v stored input job old new status disk)
