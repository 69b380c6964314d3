-- The code and the name of each fault, with what it is about.
use Rattle.std.specs.Prelude.{ℕ, List, ◌∷◌, ◌++◌, codes}
use Rattle.std.specs.Fmt.{decimal}
use Rattle.gtfs_rows.specs.declared.fault.FaultKind.{FaultKind}
use Rattle.gtfs_rows.specs.declared.fault.FaultKind.TheVariants as kinds
use Rattle.gtfs_rows.specs.declared.fault.FeedFault.{FeedFault}
use Rattle.gtfs_rows.specs.declared.fault.FeedFile.{FeedFile}
use Rattle.gtfs_rows.specs.declared.fault.FeedFile.TheVariants as files
use Rattle.service_days.specs.declared.fault.DayFault.{DayFault}
use Rattle.service_days.specs.declared.fault.DayFault.TheVariants as days
use Rattle.store_faults.specs.declared.fault.RecoverFault.{RecoverFault}
use Rattle.store_faults.specs.declared.fault.RecoverFault.TheVariants as stores
use Rattle.faults.specs.declared.fault.Fault.{Fault}
use Rattle.faults.specs.declared.fault.Fault.TheVariants as fault
use Rattle.faults.specs.declared.migrating.Side.{Side}
use Rattle.faults.specs.declared.migrating.Side.TheVariants as sides
use Rattle.faults.specs.declared.migrating.StoreFault.{StoreFault}
use Rattle.faults.specs.declared.migrating.StoreFault.TheVariants as of_files
use Rattle.pattern_query.specs.Refusals.{refusal_text}
use Rattle.shown_ids.specs.Shown.{shown}

abbrev pub kind_text : FaultKind → List ℕ
kind_text kinds.MissingFile = codes "F1 MissingFile"
kind_text kinds.MissingColumn = codes "F2 MissingColumn"
kind_text kinds.BadField = codes "F3 BadField"
kind_text kinds.DuplicateKey = codes "F4 DuplicateKey"
kind_text kinds.UnknownReference = codes "F5 UnknownReference"
kind_text kinds.TimesDecrease = codes "F6 TimesDecrease"
kind_text kinds.TooMany = codes "F7 TooMany"
kind_text kinds.BadCsv = codes "F8 BadCsv"
kind_text kinds.ReadFailed = codes "F9 ReadFailed"
kind_text kinds.EndTimeMissing = codes "F10 EndTimeMissing"
kind_text kinds.Memory = codes "F11 Memory"

-- GTFS Schedule, "Dataset Files": the names of a feed's files
abbrev pub file_text : FeedFile → List ℕ
file_text files.Stops = codes "stops.txt"
file_text files.Trips = codes "trips.txt"
file_text files.Calendar = codes "calendar.txt"
file_text files.CalendarDates = codes "calendar_dates.txt"
file_text files.StopTimes = codes "stop_times.txt"
file_text files.Transfers = codes "transfers.txt"
file_text files.Frequencies = codes "frequencies.txt"

-- the kind, the file and the row
abbrev pub feed_text : FeedFault → List ℕ
feed_text f = kind_text f.kind ++ (32 ∷ (file_text f.file ++ (codes " row " ++ decimal f.row)))

abbrev pub days_text : DayFault → List ℕ
days_text days.BadRange = codes "S1 BadRange"
days_text days.BadZone = codes "S2 BadZone"
days_text days.ZoneJump = codes "S3 ZoneJump"
days_text days.Memory = codes "S4 Memory"

abbrev pub store_text : RecoverFault → List ℕ
store_text stores.NotAStore = codes "Z1 NotAStore"
store_text stores.OldVersion = codes "Z7 OldVersion"
store_text stores.OtherTimetable = codes "Z2 OtherTimetable"
store_text stores.OtherRides = codes "Z3 OtherRides"
store_text (stores.Damaged number) = codes "Z4 Damaged " ++ decimal number
store_text stores.Device = codes "Z5 Device"
store_text stores.Memory = codes "Z6 Memory"

-- of the two files of a migration, it is said before the code which one it is
abbrev pub side_text : Side → List ℕ
side_text sides.Old = codes "old "
side_text sides.New = codes "new "

abbrev pub store_fault_text : StoreFault → List ℕ
store_fault_text (of_files.Recover f) = store_text f
store_fault_text of_files.GateDamaged = codes "Z1 NotAStore"
store_fault_text of_files.InUse = codes "Z5 Device"
store_fault_text of_files.Changed = codes "Z8 Changed"

abbrev pub migration_text : Side → StoreFault → List ℕ
migration_text side f = side_text side ++ store_fault_text f

-- after the fault of a part's file stands which one it is
abbrev pub part_text : List ℕ → StoreFault → List ℕ
part_text path f = store_fault_text f ++ (32 ∷ shown path)

-- of which stop the file of a part has another tree: first the file of the part before, and then its own
abbrev pub other_tree_text : List ℕ → List ℕ → List ℕ → List ℕ
other_tree_text stop part before = codes "M2 OtherTree " ++ (shown stop ++ (32 ∷ (shown before ++ (32 ∷ shown part))))

-- a store whose first byte is damaged is none, and one that another process has open is a device that refuses
abbrev pub fault_text : Fault → List ℕ
fault_text fault.BadDate = codes "A1 BadDate"
fault_text fault.BadTime = codes "A2 BadTime"
fault_text fault.NoRandomness = codes "NoRandomness"
fault_text (fault.Feed f) = feed_text f
fault_text (fault.Days f) = days_text f
fault_text (fault.Store f) = store_text f
fault_text fault.GateDamaged = codes "Z1 NotAStore"
fault_text fault.StoreInUse = codes "Z5 Device"
fault_text fault.PutFailed = codes "P3 Device"
fault_text (fault.Migration side f) = migration_text side f
fault_text fault.OtherList = codes "M1 OtherList"
fault_text fault.FileTooLarge = codes "P2 TooLarge"
fault_text (fault.Part path f) = part_text path.now f
fault_text (fault.OtherTree stop part before) = other_tree_text stop.now part.now before.now
fault_text (fault.Question refusal) = refusal_text refusal
fault_text fault.TooLarge = codes "N1 TooLarge"
fault_text fault.Memory = codes "Memory"
