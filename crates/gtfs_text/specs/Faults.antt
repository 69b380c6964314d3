-- The fault of a sheet for an error of the crate csv.
use Rattle.std.specs.Prelude.{ℕ}
use Rattle.csv.specs.declared.error.ErrorKind.{ErrorKind}
use Rattle.csv.specs.declared.error.ErrorKind.TheVariants as kind
use Rattle.gtfs_text.specs.declared.fault.SheetFault.{SheetFault}
use Rattle.gtfs_text.specs.declared.fault.SheetFault.TheVariants as fault

-- the fault for an error in the read of this record
abbrev pub fault_at : ℕ → ErrorKind → SheetFault
fault_at row (kind.Utf8 pos err) = fault.BadRecord row
fault_at row (kind.Io e) = fault.Memory
fault_at row (kind.UnequalLengths pos expected len) = fault.Memory
fault_at row (kind.Serialize text) = fault.Memory
fault_at row (kind.Deserialize pos err) = fault.Memory
fault_at row kind.OutOfMemory = fault.Memory

-- an error that a reader of records of any length may give
abbrev pub IsPlain : ErrorKind → Type 0
IsPlain (kind.Utf8 pos err) = Unit {0}
IsPlain (kind.Io e) = Unit {0}
IsPlain (kind.UnequalLengths pos expected len) = ⊥
IsPlain (kind.Serialize text) = ⊥
IsPlain (kind.Deserialize pos err) = ⊥
IsPlain kind.OutOfMemory = Unit {0}
