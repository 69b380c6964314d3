-- What to do about a fault, as a line to print beneath it. The lines themselves stand in the code, and are cited from there.
use Rattle.std.specs.Prelude.{ℕ, List, Option, None, Some}
use Rattle.service_days.specs.declared.fault.DayFault.{DayFault}
use Rattle.service_days.specs.declared.fault.DayFault.TheVariants as days
use Rattle.store_faults.specs.declared.fault.RecoverFault.{RecoverFault}
use Rattle.store_faults.specs.declared.fault.RecoverFault.TheVariants as stores
use Rattle.pattern_query.specs.declared.refusal.Refusal.{Refusal}
use Rattle.pattern_query.specs.declared.refusal.Refusal.TheVariants as refusals
use Rattle.faults.specs.declared.fault.Fault.{Fault}
use Rattle.faults.specs.declared.fault.Fault.TheVariants as fault
use Rattle.faults.specs.declared.advice.TheConstants.{BAD_DATE, BAD_RANGE, BAD_TIME, DAMAGED, DEVICE, GATE_DAMAGED, IN_USE, NOT_A_STORE}
use Rattle.faults.specs.declared.advice.TheConstants.{NOT_COVERED, NOT_STORED, NO_RANDOMNESS, OTHER_RIDES, OTHER_TIMETABLE, PUT_FAILED}
use Rattle.faults.specs.declared.advice.TheConstants.{OLD_VERSION}
use Rattle.faults.specs.declared.migrating.Side.{Side}
use Rattle.faults.specs.declared.migrating.Side.TheVariants as sides
use Rattle.faults.specs.declared.migrating.StoreFault.{StoreFault}
use Rattle.faults.specs.declared.migrating.StoreFault.TheVariants as files
use Rattle.faults.specs.declared.migrating.TheConstants.{FILE_TOO_LARGE, MIGRATED_RIDES, MIGRATED_TIMETABLE, NEW_DAMAGED, NEW_NOT_A_STORE}
use Rattle.faults.specs.declared.migrating.TheConstants.{CHANGED, NEW_OLD_VERSION, OLD_DEVICE, OLD_NOT_A_STORE, OTHER_LIST}
use Rattle.faults.specs.declared.parting.TheConstants.{OTHER_TREE, PART_DEVICE, PART_NOT_A_STORE}

-- of the faults of the covered days, a range that can't be covered has advice
abbrev pub days_advice : DayFault → Option (List ℕ)
days_advice days.BadRange = Some BAD_RANGE.now
days_advice days.BadZone = None
days_advice days.ZoneJump = None
days_advice days.Memory = None

-- each fault of a store has, but for want of memory
abbrev pub store_advice : RecoverFault → Option (List ℕ)
store_advice stores.Memory = None
store_advice stores.NotAStore = Some NOT_A_STORE.now
store_advice stores.OldVersion = Some OLD_VERSION.now
store_advice stores.OtherTimetable = Some OTHER_TIMETABLE.now
store_advice stores.OtherRides = Some OTHER_RIDES.now
store_advice (stores.Damaged number) = Some DAMAGED.now
store_advice stores.Device = Some DEVICE.now

-- each fault of the file of a migration that is only read has
abbrev pub old_advice : RecoverFault → Option (List ℕ)
old_advice stores.NotAStore = Some OLD_NOT_A_STORE.now
old_advice stores.OldVersion = None
old_advice stores.OtherTimetable = Some MIGRATED_TIMETABLE.now
old_advice stores.OtherRides = Some MIGRATED_RIDES.now
old_advice (stores.Damaged number) = Some DAMAGED.now
old_advice stores.Device = Some OLD_DEVICE.now
old_advice stores.Memory = None

-- and each of the file that is written
abbrev pub new_advice : RecoverFault → Option (List ℕ)
new_advice stores.NotAStore = Some NEW_NOT_A_STORE.now
new_advice stores.OldVersion = Some NEW_OLD_VERSION.now
new_advice stores.OtherTimetable = Some MIGRATED_TIMETABLE.now
new_advice stores.OtherRides = Some MIGRATED_RIDES.now
new_advice (stores.Damaged number) = Some NEW_DAMAGED.now
new_advice stores.Device = Some DEVICE.now
new_advice stores.Memory = None

abbrev pub side_advice : Side → RecoverFault → Option (List ℕ)
side_advice sides.Old f = old_advice f
side_advice sides.New f = new_advice f

abbrev pub migration_advice : Side → StoreFault → Option (List ℕ)
migration_advice side (files.Recover f) = side_advice side f
migration_advice side files.GateDamaged = Some GATE_DAMAGED.now
migration_advice side files.InUse = Some IN_USE.now
migration_advice side files.Changed = Some CHANGED.now

-- each fault of the file of a part of a merge has, but for want of memory
abbrev pub read_advice : RecoverFault → Option (List ℕ)
read_advice stores.NotAStore = Some PART_NOT_A_STORE.now
read_advice stores.OldVersion = Some OLD_VERSION.now
read_advice stores.OtherTimetable = Some MIGRATED_TIMETABLE.now
read_advice stores.OtherRides = Some MIGRATED_RIDES.now
read_advice (stores.Damaged number) = Some DAMAGED.now
read_advice stores.Device = Some PART_DEVICE.now
read_advice stores.Memory = None

abbrev pub part_advice : StoreFault → Option (List ℕ)
part_advice (files.Recover f) = read_advice f
part_advice files.GateDamaged = Some GATE_DAMAGED.now
part_advice files.InUse = Some IN_USE.now
part_advice files.Changed = Some CHANGED.now

-- of the refusals of a question, a moment that isn't covered has advice, and a stop whose tree the store lacks
abbrev pub question_advice : Refusal → Option (List ℕ)
question_advice (refusals.UnknownStop id) = None
question_advice refusals.NotCovered = Some NOT_COVERED.now
question_advice (refusals.NotStored id) = Some NOT_STORED.now

-- a date, a time, covered days, a store, a question and want of randomness have advice
abbrev pub advice_of : Fault → Option (List ℕ)
advice_of fault.BadDate = Some BAD_DATE.now
advice_of fault.BadTime = Some BAD_TIME.now
advice_of fault.NoRandomness = Some NO_RANDOMNESS.now
advice_of (fault.Feed f) = None
advice_of (fault.Days f) = days_advice f
advice_of (fault.Store f) = store_advice f
advice_of fault.GateDamaged = Some GATE_DAMAGED.now
advice_of fault.StoreInUse = Some IN_USE.now
advice_of fault.PutFailed = Some PUT_FAILED.now
advice_of (fault.Migration side f) = migration_advice side f
advice_of fault.OtherList = Some OTHER_LIST.now
advice_of fault.FileTooLarge = Some FILE_TOO_LARGE.now
advice_of (fault.Part path f) = part_advice f
advice_of (fault.OtherTree stop part before) = Some OTHER_TREE.now
advice_of (fault.Question refusal) = question_advice refusal
advice_of fault.TooLarge = None
advice_of fault.Memory = None
