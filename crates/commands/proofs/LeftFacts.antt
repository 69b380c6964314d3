-- What is left to do over a store, and what it makes of a run once it is done.
use Rattle.std.proofs.Common.{◌≡◌, ℕ, List, Option, None, Some, Result, Ok, Err, refl, subst₂, inl, inr}
use Rattle.clap.specs.Words.{Text}
use Rattle.command_line.specs.declared.job.Command.{Command}
use Rattle.command_line.specs.declared.job.Command.TheVariants as commands
use Rattle.command_line.specs.declared.job.Job.{Job}
use Rattle.command_line.specs.declared.job.Job.TheVariants as jobs
use Rattle.command_line.specs.declared.job.Plan.{Plan}
use Rattle.command_line.specs.declared.job.Search.{Search}
use Rattle.command_line.specs.declared.job.Search.TheVariants as searches
use Rattle.command_line.specs.Programs.{IsRead}
use Rattle.command_line.specs.declared.unread.Unread.{Unread}
use Rattle.feed_basis.specs.Basis.{BasisData}
use Rattle.gtfs_tables.specs.Feed.{Feed}
use Rattle.printing.specs.Finished.{StreamsData, streams_of}
use Rattle.printing.specs.Tellings.{Telling}
use Rattle.program_system.specs.World.{SystemView}
use Rattle.commands.specs.Left.{IsDone, IsLeft, IsReadDone, IsSearchDone, IsStoredCommand, IsStoredSearch, Stored, all_left}
use Rattle.commands.specs.Programs.{IsJobRun, IsProgramRun, IsReadRun}
use Rattle.commands.specs.Runs.{IsCommandRun, IsFoundRun, IsPlanRun, IsSearchRun}

-- what is found at the timetable is a run of the search
pub found_run : {D : Type 0} (t : Telling) (stored : Stored D) (plan : Plan) (basis : BasisData) (search : Search) (old new : StreamsData) (status : ℕ)
    (disk : Option D) → IsFoundRun t plan basis search old new status disk → IsSearchRun t stored plan basis search old new status disk
found_run t stored plan basis (searches.Direct question) old new status disk run = run
found_run t stored plan basis (searches.Scan question legs) old new status disk run = run
found_run t stored plan basis (searches.Reach question minutes) old new status disk run = run
found_run t stored plan basis (searches.Stored store task) old new status disk run = absurd run.is_found

search_left : (t : Telling) (plan : Plan) (basis : BasisData) (search : Search) (old new : StreamsData) (status : ℕ) (left : Option BasisData)
    → IsStoredSearch search → IsLeft basis old new left → IsSearchRun t all_left plan basis search old new status left
search_left t plan basis (searches.Direct question) old new status left is l = absurd is
search_left t plan basis (searches.Scan question legs) old new status left is l = absurd is
search_left t plan basis (searches.Reach question minutes) old new status left is l = absurd is
search_left t plan basis (searches.Stored store task) old new status left is l = l

-- a command over a store is run so far if it is left to do
pub command_left : (v : SystemView) (plan : Plan) (basis : BasisData) (command : Command) (old new : StreamsData) (status : ℕ) (left : Option BasisData)
    → IsStoredCommand command → IsLeft basis old new left → IsCommandRun v all_left None plan basis command old new status left
command_left v plan basis (commands.Find search) old new status left is l = search_left v.telling plan basis search old new status left is l
command_left v plan basis (commands.Matrix question workers progress) old new status left is l = absurd is
command_left v plan basis (commands.Serve store workers) old new status left is l = l

-- what has come to its end without a store is so whatever commands over a store may leave
module _ {D : Type 0} (v : SystemView) (stored : Stored D) (input : Option (List ℕ)) where
  search_ended : (plan : Plan) (basis : BasisData) (search : Search) (old new : StreamsData) (status : ℕ)
      → IsSearchRun v.telling all_left plan basis search old new status None → IsSearchRun v.telling stored plan basis search old new status None
  search_ended plan basis (searches.Direct question) old new status run =
      record { found = run.found; is_found = run.is_found; printed = run.printed; none = refl }
  search_ended plan basis (searches.Scan question legs) old new status run =
      record { found = run.found; is_found = run.is_found; printed = run.printed; none = refl }
  search_ended plan basis (searches.Reach question minutes) old new status run =
      record { found = run.found; is_found = run.is_found; printed = run.printed; none = refl }
  search_ended plan basis (searches.Stored store task) old new status run = cc

  command_ended : (plan : Plan) (basis : BasisData) (command : Command) (old new : StreamsData) (status : ℕ)
      → IsCommandRun v all_left None plan basis command old new status None → IsCommandRun v stored input plan basis command old new status None
  command_ended plan basis (commands.Find search) old new status run = search_ended plan basis search old new status run
  command_ended plan basis (commands.Matrix question workers progress) old new status run = (run.0, refl)
  command_ended plan basis (commands.Serve store workers) old new status run = cc

  plan_ended : (feed : Feed) (plan : Plan) (old new : StreamsData) (status : ℕ)
      → IsPlanRun v all_left None feed plan old new status None → IsPlanRun v stored input feed plan old new status None
  plan_ended feed plan old new status (inl faulted) = inl (refl, faulted.1, faulted.2, faulted.3)
  plan_ended feed plan old new status (inr over) =
      let run = over.2 in
      inr (
        over.0,
        over.1,
        record {
          noticed = run.noticed;
          idle = run.idle;
          command = command_ended plan over.0 plan.command (streams_of old.out run.noticed) new status run.command;
        },
      )

  job_ended : (job : Job) (old new : StreamsData) (status : ℕ)
      → IsJobRun v all_left None job old new status None → IsJobRun v stored input job old new status None
  job_ended jobs.Faults old new status run = (run.0, refl)
  job_ended (jobs.Check check) old new status run = (run.0, record { finished = run.1.finished; none = refl }, run.2)
  job_ended (jobs.Stops asked) old new status run = (run.0, record { finished = run.1.finished; none = refl }, run.2)
  job_ended (jobs.Plan plan) old new status (inl run) = inl (record { finished = run.finished; none = refl })
  job_ended (jobs.Plan plan) old new status (inr run) = inr (λ feed holds. plan_ended feed plan old new status (run feed holds))

  pub read_ended : (read : Result Job Unread) (old new : StreamsData) (status : ℕ)
      → IsReadRun v all_left None read old new status None → IsReadRun v stored input read old new status None
  read_ended (Ok job) old new status run = job_ended job old new status run
  read_ended (Err why) old new status run = (run.0, refl)

-- what is left is the command over a store of this plan
search_is_left : (t : Telling) (plan : Plan) (basis : BasisData) (search : Search) (old mid : StreamsData) (status : ℕ) (left : BasisData)
    → IsSearchRun t all_left plan basis search old mid status (Some left) → IsLeft basis old mid (Some left)
search_is_left t plan basis (searches.Direct question) old mid status left run = let e = run.none in cc
search_is_left t plan basis (searches.Scan question legs) old mid status left run = let e = run.none in cc
search_is_left t plan basis (searches.Reach question minutes) old mid status left run = let e = run.none in cc
search_is_left t plan basis (searches.Stored store task) old mid status left run = run

command_is_left : (v : SystemView) (plan : Plan) (basis : BasisData) (command : Command) (old mid : StreamsData) (status : ℕ) (left : BasisData)
    → IsCommandRun v all_left None plan basis command old mid status (Some left) → IsLeft basis old mid (Some left)
command_is_left v plan basis (commands.Find search) old mid status left run = search_is_left v.telling plan basis search old mid status left run
command_is_left v plan basis (commands.Matrix question workers progress) old mid status left run = let e = run.1 in cc
command_is_left v plan basis (commands.Serve store workers) old mid status left run = run

-- once it is done, the run is one over a store
module _ {D : Type 0} (v : SystemView) (stored : Stored D) (input : Option (List ℕ)) where
  search_run : (plan : Plan) (basis : BasisData) (search : Search) (old new : StreamsData) (status : ℕ) (disk : Option D)
      → IsSearchDone stored plan basis search old new status disk → IsSearchRun v.telling stored plan basis search old new status disk
  search_run plan basis (searches.Direct question) old new status disk done = absurd done
  search_run plan basis (searches.Scan question legs) old new status disk done = absurd done
  search_run plan basis (searches.Reach question minutes) old new status disk done = absurd done
  search_run plan basis (searches.Stored store task) old new status disk done = done

  command_run : (plan : Plan) (basis : BasisData) (command : Command) (old new : StreamsData) (status : ℕ) (disk : Option D)
      → IsDone stored input plan basis command old new status disk → IsCommandRun v stored input plan basis command old new status disk
  command_run plan basis (commands.Find search) old new status disk done = search_run plan basis search old new status disk done
  command_run plan basis (commands.Matrix question workers progress) old new status disk done = absurd done
  command_run plan basis (commands.Serve store workers) old new status disk done = done

  module _ (left : BasisData) (mid new : StreamsData) (so_far status : ℕ) (disk : Option D) where
    command_done : (plan : Plan) (basis : BasisData) (old : StreamsData)
        → IsCommandRun v all_left None plan basis plan.command old mid so_far (Some left)
        → IsDone stored input plan left plan.command mid new status disk → IsCommandRun v stored input plan basis plan.command old new status disk
    command_done plan basis old run done =
        let is = command_is_left v plan basis plan.command old mid so_far left run in
        let same : left ≡ basis = let e = is.0 in cc in
        command_run plan basis plan.command old new status disk
        (subst₂ (λ (b : BasisData) (s : StreamsData). IsDone stored input plan b plan.command s new status disk) same is.1 done)

    plan_done : (feed : Feed) (plan : Plan) (old : StreamsData)
        → IsPlanRun v all_left None feed plan old mid so_far (Some left)
        → IsDone stored input plan left plan.command mid new status disk → IsPlanRun v stored input feed plan old new status disk
    plan_done feed plan old (inl faulted) done = let e = faulted.0 in cc
    plan_done feed plan old (inr over) done =
        let run = over.2 in
        inr (
          over.0,
          over.1,
          record {
            noticed = run.noticed;
            idle = run.idle;
            command = command_done plan over.0 (streams_of old.out run.noticed) run.command done;
          },
        )

    pub read_done : (read : Result Job Unread) (old : StreamsData) → IsReadRun v all_left None read old mid so_far (Some left)
        → IsReadDone stored input read left mid new status disk → IsReadRun v stored input read old new status disk
    read_done (Ok jobs.Faults) old run done = absurd done
    read_done (Ok (jobs.Check check)) old run done = absurd done
    read_done (Ok (jobs.Stops asked)) old run done = absurd done
    read_done (Ok (jobs.Plan plan)) old (inl run) done = let e = run.none in cc
    read_done (Ok (jobs.Plan plan)) old (inr run) done = inr (λ feed holds. plan_done feed plan old (run feed holds) done)
    read_done (Err why) old run done = absurd done

-- what comes of words by what they were read as is a run of the program
pub program_run : {D : Type 0} (v : SystemView) (stored : Stored D) (input : Option (List ℕ)) (words : List Text) (read : Result Job Unread)
    (old new : StreamsData) (status : ℕ) (disk : Option D) → IsRead words read → IsReadRun v stored input read old new status disk
    → IsProgramRun v stored input words old new status disk
program_run v stored input words (Ok job) old new status disk is run = inr (job, record { faultless = is.0; is = is.1 }, run)
program_run v stored input words (Err why) old new status disk is run = inl (record { why = why; is = is; refused = run.0 }, run.1)
