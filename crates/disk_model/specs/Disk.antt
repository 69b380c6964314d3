-- What the calls of a disk do to its file.
use Rattle.std.specs.Prelude.{◌<◌, ◌≡◌, ◌⊎◌, ℕ, ◌+◌, ◌-◌, ◌^◌, ◌≤◌, min, max, List, [], ◌∷◌, ◌++◌, length, take, drop, Result, MatchResult}
use Rattle.disk_model.specs.Image.{Image, settled_image, with_write, with_cut}

-- A disk: what reads give, what a crash now may leave, and what it might have left at each earlier moment, the oldest
-- first. A moment inside a write or a cut has the image of the moment after it, one inside a sync that of the moment
-- before it.
pub record State : Type 0 where
  pub read : List ℕ
  pub now : Image
  pub past : List Image

-- an empty file with nothing unsynced, at the first moment
abbrev pub empty_disk : State
empty_disk = record { read = []; now = settled_image []; past = [] }

-- the next moment
abbrev pub next_state : List ℕ → Image → State → State
next_state read now disk = record { read = read; now = now; past = disk.past ++ disk.now ∷ [] }

-- these bytes in place of those from a place on
abbrev pub spliced_bytes : ℕ → List ℕ → List ℕ → List ℕ
spliced_bytes at bytes old = take at old ++ (bytes ++ drop (at + length bytes) old)

abbrev pub after_write : ℕ → List ℕ → State → State
after_write at bytes disk = next_state (spliced_bytes at bytes disk.read) (with_write at (length bytes) disk.now) disk

abbrev pub after_cut : ℕ → State → State
after_cut len disk = next_state (take len disk.read) (with_cut len disk.now) disk

abbrev pub after_sync : State → State
after_sync disk = next_state disk.read (settled_image disk.read) disk

-- what reads give once a write of `count` bytes was done in part: any bytes in its range, the same elsewhere
pub record IsTorn (at count : ℕ) (old new : List ℕ) : Type 0 where
  pub before : take at new ≡ take at old
  pub behind : drop (at + count) new ≡ drop (at + count) old
  pub no_shorter : length old ≤ length new
  pub no_longer : length new ≤ max (length old) (at + count)

-- what reads give once a cut was done in part: a front of the file that is no shorter than asked for
pub record IsShortened (len : ℕ) (old new : List ℕ) : Type 0 where
  pub no_shorter : min len (length old) ≤ length new
  pub front : take (length new) old ≡ new

-- A write that failed was done in part, in any way, or not at all.
abbrev pub WriteFailed : ℕ → ℕ → State → State → Type 0
WriteFailed at count old new = (new ≡ old)
    ⊎ ((read : List ℕ) × IsTorn at count old.read read × (new ≡ next_state read (with_write at count old.now) old))

-- A cut that failed was done in part, in any way, or not at all.
abbrev pub CutFailed : ℕ → State → State → Type 0
CutFailed len old new = (new ≡ old) ⊎ ((read : List ℕ) × IsShortened len old.read read × (new ≡ next_state read (with_cut len old.now) old))

-- what a write of these bytes at a place does
abbrev pub Writes : {E : Type 0} → ℕ → List ℕ → Result Unit E → State → State → Type 0
Writes at bytes result old new = MatchResult result (λ _. new ≡ after_write at bytes old) (λ _. WriteFailed at (length bytes) old new)

-- what a cut to a length does
abbrev pub Cuts : {E : Type 0} → ℕ → Result Unit E → State → State → Type 0
Cuts len result old new = MatchResult result (λ _. new ≡ after_cut len old) (λ _. CutFailed len old new)

-- what a sync does; one that fails changes nothing
abbrev pub Syncs : {E : Type 0} → Result Unit E → State → State → Type 0
Syncs result old new = MatchResult result (λ _. new ≡ after_sync old) (λ _. new ≡ old)

-- what a read at a place into a buffer gives: some of the bytes from there on, none only at the end
pub record Gives (read : List ℕ) (at : ℕ) (old new : List ℕ) (count : ℕ) : Type 0 where
  pub there : count ≤ length (drop at read)
  pub bytes : take count new ≡ take count (drop at read)
  pub some : 0 < length old → at < length read → 0 < count

-- the last number of failures that is counted
abbrev pub last_count : ℕ
last_count = 2 ^ 64 - 1

-- a call that answers a fault is counted, and no other; the last number stays
abbrev pub Counts : {T E : Type 0} → Result T E → ℕ → ℕ → Type 0
Counts result old new = MatchResult result (λ _. new ≡ old) (λ _. new ≡ min (old + 1) last_count)

-- some call between the two numbers of failures has failed; the last number counts as grown
abbrev pub Grew : ℕ → ℕ → Type 0
Grew old new = (old < new) ⊎ (last_count ≤ old)
