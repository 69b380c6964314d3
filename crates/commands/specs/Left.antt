-- What is left to do over a store.
use Rattle.std.specs.Prelude.{◌≡◌, ℕ, List, Option, Some, Result, Ok, Err}
use Rattle.command_line.specs.declared.job.Command.{Command}
use Rattle.command_line.specs.declared.job.Command.TheVariants as commands
use Rattle.command_line.specs.declared.job.Job.{Job}
use Rattle.command_line.specs.declared.job.Job.TheVariants as jobs
use Rattle.command_line.specs.declared.job.Plan.{Plan}
use Rattle.command_line.specs.declared.job.Search.{Search}
use Rattle.command_line.specs.declared.job.Search.TheVariants as searches
use Rattle.command_line.specs.declared.job.Task.{Task}
use Rattle.command_line.specs.declared.unread.Unread.{Unread}
use Rattle.feed_basis.specs.Basis.{BasisData}
use Rattle.printing.specs.Finished.{StreamsData}

-- What commands over a store may leave. Of a plan over a basis and the file of a path: what a task may leave on both streams, as its status
-- and of the disk; and what replies to the bytes of standard input may, if these are known.
pub record Stored (D : Type 0) : Type 1 where
  pub finds : Plan → BasisData → List ℕ → Task → StreamsData → StreamsData → ℕ → Option D → Type 0
  pub serves : Option (List ℕ) → Plan → BasisData → List ℕ → StreamsData → StreamsData → ℕ → Option D → Type 0

-- the search is a task over a store
abbrev pub IsStoredSearch : Search → Type 0
IsStoredSearch (searches.Direct question) = ⊥
IsStoredSearch (searches.Scan question legs) = ⊥
IsStoredSearch (searches.Reach question minutes) = ⊥
IsStoredSearch (searches.Stored store task) = Unit {0}

-- the command is one over a store
abbrev pub IsStoredCommand : Command → Type 0
IsStoredCommand (commands.Find search) = IsStoredSearch search
IsStoredCommand (commands.Matrix question workers progress) = ⊥
IsStoredCommand (commands.Serve store workers) = Unit {0}

-- a job is such a command, and so are words that were read as one
abbrev pub IsStoredJob : Job → Type 0
IsStoredJob (jobs.Check check) = ⊥
IsStoredJob (jobs.Stops stops) = ⊥
IsStoredJob jobs.Faults = ⊥
IsStoredJob (jobs.Plan plan) = IsStoredCommand plan.command

abbrev pub IsStoredRead : Result Job Unread → Type 0
IsStoredRead (Ok job) = IsStoredJob job
IsStoredRead (Err why) = ⊥

-- it is left to do over this basis, and nothing was printed by it
abbrev pub IsLeft : BasisData → StreamsData → StreamsData → Option BasisData → Type 0
IsLeft basis old new left = (left ≡ Some basis) × (new ≡ old)

-- each command over a store is left to do
abbrev pub all_left : Stored BasisData
all_left = record {
  finds = λ plan basis path task old new status left. IsLeft basis old new left;
  serves = λ input plan basis path old new status left. IsLeft basis old new left;
}

-- what is left of a search is done
abbrev pub IsSearchDone : {D : Type 0} → Stored D → Plan → BasisData → Search → StreamsData → StreamsData → ℕ → Option D → Type 0
IsSearchDone stored plan basis (searches.Direct question) old new status disk = ⊥
IsSearchDone stored plan basis (searches.Scan question legs) old new status disk = ⊥
IsSearchDone stored plan basis (searches.Reach question minutes) old new status disk = ⊥
IsSearchDone stored plan basis (searches.Stored store task) old new status disk = stored.finds plan basis store.now task old new status disk

-- what is left of a command is done, over the bytes of standard input, if they are known
abbrev pub IsDone : {D : Type 0} → Stored D → Option (List ℕ) → Plan → BasisData → Command → StreamsData → StreamsData → ℕ → Option D → Type 0
IsDone stored input plan basis (commands.Find search) old new status disk = IsSearchDone stored plan basis search old new status disk
IsDone stored input plan basis (commands.Matrix question workers progress) old new status disk = ⊥
IsDone stored input plan basis (commands.Serve store workers) old new status disk = stored.serves input plan basis store.now old new status disk

-- so is what is left of words that were read as this
abbrev pub IsReadDone : {D : Type 0} → Stored D → Option (List ℕ) → Result Job Unread → BasisData → StreamsData → StreamsData → ℕ → Option D → Type 0
IsReadDone stored input (Ok (jobs.Plan plan)) basis old new status disk = IsDone stored input plan basis plan.command old new status disk
IsReadDone stored input (Ok (jobs.Check check)) basis old new status disk = ⊥
IsReadDone stored input (Ok (jobs.Stops stops)) basis old new status disk = ⊥
IsReadDone stored input (Ok jobs.Faults) basis old new status disk = ⊥
IsReadDone stored input (Err why) basis old new status disk = ⊥
