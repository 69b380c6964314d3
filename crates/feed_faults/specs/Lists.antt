-- What a list has of a feed's faults.
use Rattle.std.specs.Prelude.{◌≡◌, ◌⊎◌, true, List}
use Rattle.gtfs_rows.specs.declared.fault.FeedFault.{FeedFault}
use Rattle.file_faults.specs.Lists.{HasFaults}
use Rattle.file_faults.specs.declared.list.FaultList.{FaultList}

-- the list has these faults; or a reader failed, so that nothing is known of what it would have given
abbrev pub Lists : FaultList → List FeedFault → Type 0
Lists list faults = (list.unread ≡ true) ⊎ HasFaults list faults
