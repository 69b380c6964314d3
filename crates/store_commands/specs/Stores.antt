-- What a task over a store leaves.
use Rattle.std.specs.Prelude.{ℕ, List, Option, Result}
use Rattle.command_line.specs.declared.job.Plan.{Plan}
use Rattle.command_line.specs.declared.job.Task.{Task}
use Rattle.faults.specs.declared.fault.Fault.{Fault}
use Rattle.feed_basis.specs.Basis.{BasisData}
use Rattle.feed_commands.specs.Found.{IsFoundPrinted}
use Rattle.feed_commands.specs.declared.found.Found.{Found}
use Rattle.printing.specs.Faults.{voice_of}
use Rattle.printing.specs.Finished.{StreamsData, streams_of}
use Rattle.printing.specs.Tellings.{Telling}
use Rattle.store_commands.specs.Stored.{IsOverStore}
use Rattle.store_files.specs.Disks.{DiskView}
use Rattle.streams.specs.Streams.{StreamData}

-- a task over the file of that path: what it found was reported, or its fault
pub record IsTaskRun {D : Type 0} (v : DiskView D) (t : Telling) (plan : Plan) (basis : BasisData) (k : ℕ) (path : List ℕ) (task : Task)
    (old new : StreamsData) (status : ℕ) (disk : Option D) : Type 0 where
  pub found : Result Found Fault
  pub noticed : StreamData
  pub is_found : IsOverStore v plan.style basis k path task found disk old.err noticed
  pub printed : IsFoundPrinted t (voice_of plan) basis found (streams_of old.out noticed) new status
