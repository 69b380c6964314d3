-- What the commands over a store leave.
use Rattle.commands.specs.Left.{Stored}
use Rattle.printing.specs.Faults.{voice_of}
use Rattle.printing.specs.Tellings.{Telling}
use Rattle.store_commands.specs.Served.{IsServed}
use Rattle.store_commands.specs.Stores.{IsTaskRun}
use Rattle.store_files.specs.Disks.{DiskView}

-- tasks and replies over the stores in these files, for journeys of as many rides as the plan says
abbrev pub over_stores : {D : Type 0} → DiskView D → Telling → Stored D
over_stores v t = record {
  finds = λ plan basis path task old new status disk. IsTaskRun v t plan basis plan.settings.rides path task old new status disk;
  serves = λ input plan basis path old new status disk.
      IsServed v t input plan.style (voice_of plan) basis plan.settings.rides path old new status disk;
}
