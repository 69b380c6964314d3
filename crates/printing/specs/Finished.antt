-- What stands on both streams, and the status, once a command has ended.
use Rattle.std.specs.Prelude.{◌≡◌, ◌≢◌, ◌⊎◌, ℕ, List, Result, Ok, Err}
use Rattle.faults.specs.Faults.{status_of}
use Rattle.faults.specs.declared.fault.Fault.{Fault}
use Rattle.printing.specs.Faults.{IsFaultSaid}
use Rattle.printing.specs.Told.{told_status, told_text}
use Rattle.printing.specs.declared.fault.Voice.{Voice}
use Rattle.printing.specs.declared.finishing.TheConstants.{NO_MEMORY, UNWRITTEN}
use Rattle.printing.specs.declared.told.Told.{Told}
use Rattle.streams.specs.Streams.{HasBeginning, HasWhole, IsSaid, StreamData}
use Rattle.printing.specs.Tellings.{Telling}

-- standard output and standard error
pub record StreamsData : Type 0 where
  pub out : StreamData
  pub err : StreamData

abbrev pub streams_of : StreamData → StreamData → StreamsData
streams_of out err = record { out = out; err = err }

-- standard error says that memory ran out
pub record IsNoMemory (old new : StreamData) (status : ℕ) : Type 0 where
  pub status_is : status ≡ 7
  pub said : IsSaid NO_MEMORY.now old new

-- standard error says that standard output refused a write
pub record IsUnwritten (old new : StreamData) (status : ℕ) : Type 0 where
  pub status_is : status ≡ 8
  pub said : IsSaid UNWRITTEN.now old new

-- all of a text stands on standard output, and nothing more on standard error
pub record IsPrinted (text : List ℕ) (meant : ℕ) (old new : StreamsData) (status : ℕ) : Type 0 where
  pub status_is : status ≡ meant
  pub whole : HasWhole text old.out new.out
  pub silent : new.err ≡ old.err

-- standard output refused a write, and has a beginning of the text
pub record IsCutOff (text : List ℕ) (old new : StreamsData) (status : ℕ) : Type 0 where
  pub beginning : HasBeginning text old.out new.out
  pub unwritten : IsUnwritten old.err new.err status

-- memory ran out as the text was made, and nothing was printed
pub record IsUnmade (old new : StreamsData) (status : ℕ) : Type 0 where
  pub nothing : new.out ≡ old.out
  pub memory : IsNoMemory old.err new.err status

abbrev pub IsWritten : Told → StreamsData → StreamsData → ℕ → Type 0
IsWritten told old new status =
    IsPrinted (told_text told) (told_status told) old new status
    ⊎ (IsCutOff (told_text told) old new status ⊎ IsUnmade old new status)

-- a fault is said, with its status, and nothing is printed
pub record IsFaulted (t : Telling) (voice : Voice) (fault : Fault) (old new : StreamsData) (status : ℕ) : Type 0 where
  pub status_is : status ≡ status_of fault
  pub nothing : new.out ≡ old.out
  pub said : IsFaultSaid t voice fault old.err new.err

-- What is reported stands on standard output, or its fault on standard error. Standard output may refuse a write, and memory may run out
-- before there is anything to write.
abbrev pub IsFinished : Telling → Voice → Result Told Fault → StreamsData → StreamsData → ℕ → Type 0
IsFinished t voice (Ok told) old new status = IsWritten told old new status
IsFinished t voice (Err fault) old new status = IsFaulted t voice fault old new status

-- a fault of the words: its text goes to standard error, whole or up to a write that was refused
pub record IsWordsFault (text : List ℕ) (meant : ℕ) (old new : StreamsData) (status : ℕ) : Type 0 where
  pub status_is : status ≡ meant
  pub nothing : new.out ≡ old.out
  pub said : IsSaid text old.err new.err

-- a text in place of a job is shown: help on standard output, a fault of the words on standard error
abbrev pub IsShown : List ℕ → ℕ → StreamsData → StreamsData → ℕ → Type 0
IsShown text meant old new status =
    ((meant ≡ 0) × (IsPrinted text 0 old new status ⊎ IsCutOff text old new status))
    ⊎ ((meant ≢ 0) × IsWordsFault text meant old new status)
