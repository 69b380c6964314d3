-- Theorems about only the definitions.
use Rattle.std.specs.Prelude.{◌≡◌, ◌≤◌, ◌⊎◌, ◌↔◌, ℕ, List, [], ◌∷◌, ◌++◌, length, Result, Err}
use Rattle.disk_model.specs.Image.{Image, IsOutcome, settled_image, with_write, with_cut}
use Rattle.disk_model.specs.Disk.{State, IsTorn, IsShortened, Writes, Cuts, Syncs, Counts, Grew}
use Rattle.disk_model.specs.Moments.{moments, moment, IsLeft, LeavesOnly}
use Rattle.disk_model.specs.Crash.{CanCrash, filled_bytes}
use Rattle.disk_model.specs.declared.fault.DiskFault.{DiskFault}

-- after a sync or a crash the bytes that reads give are an outcome, and the only one
abbrev pub LeavesTheReads : Type 0
LeavesTheReads = (bytes : List ℕ)
    → IsOutcome (settled_image bytes) bytes × ((left : List ℕ) → IsOutcome (settled_image bytes) left → left ≡ bytes)

-- what a crash may leave before a write it may leave during it and after it
abbrev pub WritesAddOutcomes : Type 0
WritesAddOutcomes = (image : Image) (at count : ℕ) (bytes : List ℕ) → IsOutcome image bytes → IsOutcome (with_write at count image) bytes

-- what a crash may leave before a cut it may leave during it and after it
abbrev pub CutsAddOutcomes : Type 0
CutsAddOutcomes = (image : Image) (len : ℕ) (bytes : List ℕ) → IsOutcome image bytes → IsOutcome (with_cut len image) bytes

-- what reads may give after a write that failed is among what a crash may leave
abbrev pub TornReadsAreOutcomes : Type 0
TornReadsAreOutcomes = (image : Image) (at count : ℕ) (old new : List ℕ) → IsOutcome image old → IsTorn at count old new
    → IsOutcome (with_write at count image) new

-- what reads may give after a cut that failed is among what a crash may leave
abbrev pub ShortenedReadsAreOutcomes : Type 0
ShortenedReadsAreOutcomes = (image : Image) (len : ℕ) (old new : List ℕ) → IsOutcome image old → IsShortened len old new
    → IsOutcome (with_cut len image) new

-- the moments before stay, and there is at most one more
abbrev pub GoesOn : State → State → Type 0
GoesOn old new = (moments new ≡ moments old) ⊎ (moments new ≡ moments old ++ new.now ∷ [])

-- a call adds at most one moment and changes none before it
abbrev pub TimeGoesOn : Type 0
TimeGoesOn =
    (result : Result Unit DiskFault) (old new : State)
    → ((at : ℕ) (bytes : List ℕ) → Writes at bytes result old new → GoesOn old new)
    × ((len : ℕ) → Cuts len result old new → GoesOn old new)
    × (Syncs result old new → GoesOn old new)

-- what a crash leaves at the moment that is now is what it may leave
abbrev pub LeavesNow : Type 0
LeavesNow = (disk : State) (bytes : List ℕ) → IsLeft disk (moment disk) bytes ↔ IsOutcome disk.now bytes

-- what a crash leaves at a moment stays as time goes on
abbrev pub LeavesBefore : Type 0
LeavesBefore = (old new : State) (m : ℕ) (bytes : List ℕ) → GoesOn old new → m ≤ moment old → (IsLeft old m bytes ↔ IsLeft new m bytes)

-- what a length and a fill make is an outcome
abbrev pub MakesOutcomes : Type 0
MakesOutcomes = (image : Image) (len : ℕ) (fill : List ℕ) → CanCrash image len fill → IsOutcome image (filled_bytes image 0 len fill)

-- each outcome is made by its length and some fill
abbrev pub MakesEachOutcome : Type 0
MakesEachOutcome = (image : Image) (bytes : List ℕ) → IsOutcome image bytes
    → (fill : List ℕ) × CanCrash image (length bytes) fill × (filled_bytes image 0 (length bytes) fill ≡ bytes)

-- since a write began, done or not, a crash leaves what it may leave during that write
abbrev pub WritesLeave : Type 0
WritesLeave =
    (result : Result Unit DiskFault) (at : ℕ) (bytes : List ℕ) (old new : State)
    → Writes at bytes result old new
    → LeavesOnly old new (IsOutcome (with_write at (length bytes) old.now))

-- since a cut began, done or not, a crash leaves what it may leave during that cut
abbrev pub CutsLeave : Type 0
CutsLeave = (result : Result Unit DiskFault) (len : ℕ) (old new : State) → Cuts len result old new
    → LeavesOnly old new (IsOutcome (with_cut len old.now))

-- at each moment that a sync adds, a crash leaves what reads gave before it
abbrev pub SyncsLeave : Type 0
SyncsLeave = (result : Result Unit DiskFault) (old new : State) → Syncs result old new → LeavesOnly old new (λ left. left ≡ old.read)

-- a call that failed is seen by the counts before and after it, however many calls lie between
abbrev pub FailuresGrow : Type 0
FailuresGrow = (fault : DiskFault) (before old new after : ℕ) → before ≤ old → Counts {T = Unit {0}} (Err fault) old new → new ≤ after
    → Grew before after
