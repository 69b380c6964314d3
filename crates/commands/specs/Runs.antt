-- What a run of a plan leaves.
use Rattle.std.specs.Prelude.{◌≡◌, ◌⊎◌, ℕ, List, Option, None, Result}
use Rattle.gtfs_tables.specs.Feed.{Feed}
use Rattle.command_line.specs.declared.job.Command.{Command}
use Rattle.command_line.specs.declared.job.Command.TheVariants as commands
use Rattle.command_line.specs.declared.job.Plan.{Plan}
use Rattle.command_line.specs.declared.job.Search.{Search}
use Rattle.command_line.specs.declared.job.Search.TheVariants as searches
use Rattle.faults.specs.declared.fault.Fault.{Fault}
use Rattle.feed_basis.specs.Basis.{BasisData}
use Rattle.feed_basis.specs.BasisFaults.{IsBasisFault}
use Rattle.printing.specs.Finished.{IsFaulted, StreamsData, streams_of}
use Rattle.streams.specs.Streams.{StreamData}
use Rattle.printing.specs.Faults.{voice_of}
use Rattle.printing.specs.Tellings.{Telling}
use Rattle.commands.specs.Feeds.{IsGround}
use Rattle.feed_commands.specs.Found.{IsFoundPrinted}
use Rattle.commands.specs.Idle.{IsIdleSaid}
use Rattle.feed_commands.specs.Matrices.{IsMatrixRun}
use Rattle.commands.specs.Left.{Stored}
use Rattle.commands.specs.Searches.{IsFoundBy}
use Rattle.program_system.specs.World.{SystemView}
use Rattle.feed_commands.specs.declared.found.Found.{Found}

-- what a plan searches for was found at the timetable, or has a fault, and that was reported; no store was opened
pub record IsFoundRun {D : Type 0} (t : Telling) (plan : Plan) (basis : BasisData) (search : Search) (old new : StreamsData) (status : ℕ)
    (disk : Option D) : Type 0 where
  pub found : Result Found Fault
  pub is_found : IsFoundBy plan.style basis plan.settings.rides search found
  pub printed : IsFoundPrinted t (voice_of plan) basis found old new status
  pub none : disk ≡ None

-- so it is; or it is a task over a store, which leaves what commands over a store may
abbrev pub IsSearchRun : {D : Type 0} → Telling → Stored D → Plan → BasisData → Search → StreamsData → StreamsData → ℕ → Option D → Type 0
IsSearchRun t stored plan basis (searches.Direct question) old new status disk = IsFoundRun t plan basis (searches.Direct question) old new status disk
IsSearchRun t stored plan basis (searches.Scan question legs) old new status disk =
    IsFoundRun t plan basis (searches.Scan question legs) old new status disk
IsSearchRun t stored plan basis (searches.Reach question minutes) old new status disk =
    IsFoundRun t plan basis (searches.Reach question minutes) old new status disk
IsSearchRun t stored plan basis (searches.Stored store task) old new status disk = stored.finds plan basis store.now task old new status disk

-- a command over the timetable, and over the bytes of standard input, if they are known
abbrev pub IsCommandRun : {D : Type 0} → SystemView → Stored D → Option (List ℕ) → Plan → BasisData → Command → StreamsData → StreamsData → ℕ → Option D → Type 0
IsCommandRun v stored input plan basis (commands.Find search) old new status disk =
    IsSearchRun v.telling stored plan basis search old new status disk
IsCommandRun v stored input plan basis (commands.Matrix question workers progress) old new status disk =
    IsMatrixRun v (voice_of plan) basis plan.settings.rides question old new status × (disk ≡ None)
IsCommandRun v stored input plan basis (commands.Serve store workers) old new status disk =
    stored.serves input plan basis store.now old new status disk

-- standard error says if no trip runs on the covered days, and then the command is done
pub record IsRunOver {D : Type 0} (v : SystemView) (stored : Stored D) (input : Option (List ℕ)) (plan : Plan) (basis : BasisData) (old new : StreamsData)
    (status : ℕ) (disk : Option D) : Type 0 where
  pub noticed : StreamData
  pub idle : IsIdleSaid basis.idle basis.timetable.instances old.err noticed
  pub command : IsCommandRun v stored input plan basis plan.command (streams_of old.out noticed) new status disk

-- What a run leaves, in the order in which faults are looked for: the feed and its days; then the store, and then the question.
-- The store is opened only if the feed and its days are without fault.
abbrev pub IsPlanRun : {D : Type 0} → SystemView → Stored D → Option (List ℕ) → Feed → Plan → StreamsData → StreamsData → ℕ → Option D → Type 0
IsPlanRun v stored input feed plan old new status disk =
    ((disk ≡ None) × (fault : Fault) × IsBasisFault v.world.keyed feed plan.settings plan.first fault
    × IsFaulted v.telling (voice_of plan) fault old new status)
    ⊎ ((basis : BasisData) × IsGround v.world.keyed feed plan basis × IsRunOver v stored input plan basis old new status disk)
