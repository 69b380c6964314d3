-- The faults that the program reports, and the status that each ends them with.
use Rattle.std.specs.Prelude.{ℕ, List}
use Rattle.gtfs_rows.specs.declared.fault.FaultKind.{FaultKind}
use Rattle.gtfs_rows.specs.declared.fault.FaultKind.TheVariants as kinds
use Rattle.gtfs_rows.specs.declared.fault.FeedFault.{FeedFault}
use Rattle.service_days.specs.declared.fault.DayFault.{DayFault}
use Rattle.service_days.specs.declared.fault.DayFault.TheVariants as days
use Rattle.pattern_tree.specs.declared.fault.TreeFault.{TreeFault}
use Rattle.pattern_tree.specs.declared.fault.TreeFault.TheVariants as trees
use Rattle.store_faults.specs.declared.fault.RecoverFault.{RecoverFault}
use Rattle.store_faults.specs.declared.fault.RecoverFault.TheVariants as stores
use Rattle.faults.specs.declared.fault.Fault.{Fault}
use Rattle.faults.specs.declared.fault.Fault.TheVariants as fault
use Rattle.faults.specs.declared.migrating.Side.{Side}
use Rattle.faults.specs.declared.migrating.StoreFault.TheVariants as files
use denote.Ref.{Bor}

abbrev pub status_of : Fault → ℕ
status_of fault.BadDate = 2
status_of fault.BadTime = 2
status_of fault.NoRandomness = 1
status_of (fault.Feed f) = 1
status_of (fault.Days f) = 1
status_of (fault.Store f) = 4
status_of fault.GateDamaged = 4
status_of fault.StoreInUse = 4
status_of fault.PutFailed = 4
status_of (fault.Migration side f) = 4
status_of fault.OtherList = 4
status_of fault.FileTooLarge = 4
status_of (fault.Part path f) = 4
status_of (fault.OtherTree stop part before) = 4
status_of (fault.Question refusal) = 6
status_of fault.TooLarge = 3
status_of fault.Memory = 7

-- the fault of a feed, but for want of memory; and that of the days
abbrev pub of_kind : FaultKind → FeedFault → Fault
of_kind kinds.Memory f = fault.Memory
of_kind kinds.MissingFile f = fault.Feed f
of_kind kinds.MissingColumn f = fault.Feed f
of_kind kinds.BadField f = fault.Feed f
of_kind kinds.DuplicateKey f = fault.Feed f
of_kind kinds.UnknownReference f = fault.Feed f
of_kind kinds.TimesDecrease f = fault.Feed f
of_kind kinds.TooMany f = fault.Feed f
of_kind kinds.BadCsv f = fault.Feed f
of_kind kinds.ReadFailed f = fault.Feed f
of_kind kinds.EndTimeMissing f = fault.Feed f

abbrev pub of_feed : FeedFault → Fault
of_feed f = of_kind f.kind f

abbrev pub of_days : DayFault → Fault
of_days days.Memory = fault.Memory
of_days days.BadRange = fault.Days days.BadRange
of_days days.BadZone = fault.Days days.BadZone
of_days days.ZoneJump = fault.Days days.ZoneJump

-- the fault of a stop's tree
abbrev pub of_tree : TreeFault → Fault
of_tree trees.TooLarge = fault.TooLarge
of_tree trees.Memory = fault.Memory

-- the fault of a store's file, but for want of memory
abbrev pub of_store : RecoverFault → Fault
of_store stores.Memory = fault.Memory
of_store stores.NotAStore = fault.Store stores.NotAStore
of_store stores.OldVersion = fault.Store stores.OldVersion
of_store stores.OtherTimetable = fault.Store stores.OtherTimetable
of_store stores.OtherRides = fault.Store stores.OtherRides
of_store (stores.Damaged number) = fault.Store (stores.Damaged number)
of_store stores.Device = fault.Store stores.Device

-- that of one of the two files of a migration: want of memory is nobody's
abbrev pub of_migrated : Side → RecoverFault → Fault
of_migrated side stores.Memory = fault.Memory
of_migrated side stores.NotAStore = fault.Migration side (files.Recover stores.NotAStore)
of_migrated side stores.OldVersion = fault.Migration side (files.Recover stores.OldVersion)
of_migrated side stores.OtherTimetable = fault.Migration side (files.Recover stores.OtherTimetable)
of_migrated side stores.OtherRides = fault.Migration side (files.Recover stores.OtherRides)
of_migrated side (stores.Damaged number) = fault.Migration side (files.Recover (stores.Damaged number))
of_migrated side stores.Device = fault.Migration side (files.Recover stores.Device)

-- a fault of a store's file, if it is one of the two of a migration; any other is as it was
abbrev pub in_migration : Side → Fault → Fault
in_migration side (fault.Store f) = fault.Migration side (files.Recover f)
in_migration side fault.GateDamaged = fault.Migration side files.GateDamaged
in_migration side fault.StoreInUse = fault.Migration side files.InUse
in_migration side other = other

-- that of the file of a part: want of memory is nobody's
abbrev pub of_part : Bor (List ℕ) → RecoverFault → Fault
of_part path stores.Memory = fault.Memory
of_part path stores.NotAStore = fault.Part path (files.Recover stores.NotAStore)
of_part path stores.OldVersion = fault.Part path (files.Recover stores.OldVersion)
of_part path stores.OtherTimetable = fault.Part path (files.Recover stores.OtherTimetable)
of_part path stores.OtherRides = fault.Part path (files.Recover stores.OtherRides)
of_part path (stores.Damaged number) = fault.Part path (files.Recover (stores.Damaged number))
of_part path stores.Device = fault.Part path (files.Recover stores.Device)

-- a fault of a store's file, if it is that of a part; any other is as it was
abbrev pub in_part : Bor (List ℕ) → Fault → Fault
in_part path (fault.Store f) = fault.Part path (files.Recover f)
in_part path fault.GateDamaged = fault.Part path files.GateDamaged
in_part path fault.StoreInUse = fault.Part path files.InUse
in_part path other = other
