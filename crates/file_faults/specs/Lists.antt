-- A list of a feed's faults: the first ones, and how many more there are.
use Rattle.std.specs.Prelude.{◌≡◌, ◌-◌, ◌^◌, Bool, true, false, List, ◌++◌, length, take, min}
use Rattle.gtfs_rows.specs.declared.fault.FaultKind.{FaultKind}
use Rattle.gtfs_rows.specs.declared.fault.FaultKind.TheVariants as kinds
use Rattle.gtfs_rows.specs.declared.fault.FeedFault.{FeedFault}
use Rattle.file_faults.specs.declared.list.FaultList.{FaultList}

-- the first 1,000 of these faults, and the number of the others, of at most 2^64 - 1
pub record HasFaults (list : FaultList) (faults : List FeedFault) : Type 0 where
  pub first : list.faults.items ≡ take 1_000 faults
  pub more : list.more ≡ min (length faults - 1_000) (2 ^ 64 - 1)

-- these faults were added to a list; whether a reader failed is as it was
pub record Adds (old new : FaultList) (added : List FeedFault) : Type 0 where
  pub unread : new.unread ≡ old.unread
  pub joins : (faults : List FeedFault) → HasFaults old faults → HasFaults new (faults ++ added)

-- memory ran out, or a reader failed
abbrev pub is_memory : FaultKind → Bool
is_memory kinds.Memory = true
is_memory kinds.ReadFailed = false
is_memory kinds.MissingFile = false
is_memory kinds.MissingColumn = false
is_memory kinds.BadField = false
is_memory kinds.DuplicateKey = false
is_memory kinds.UnknownReference = false
is_memory kinds.TimesDecrease = false
is_memory kinds.TooMany = false
is_memory kinds.BadCsv = false
is_memory kinds.EndTimeMissing = false

abbrev pub is_unread : FaultKind → Bool
is_unread kinds.ReadFailed = true
is_unread kinds.Memory = false
is_unread kinds.MissingFile = false
is_unread kinds.MissingColumn = false
is_unread kinds.BadField = false
is_unread kinds.DuplicateKey = false
is_unread kinds.UnknownReference = false
is_unread kinds.TimesDecrease = false
is_unread kinds.TooMany = false
is_unread kinds.BadCsv = false
is_unread kinds.EndTimeMissing = false
