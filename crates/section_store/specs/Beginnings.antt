-- In which files a store may be begun.
use Rattle.std.specs.Prelude.{◌<◌, ◌≤◌, ◌≡◌, ◌⊎◌, ℕ, List, [], ◌∷◌, ◌++◌, length, slice_index}
use Rattle.section_store.specs.Sections.{Form, header_tail, open_gate}

-- a write of these bytes that was stopped may have left the others: each is the one in its place, or 00, and there are no more
pub record IsLeftOf (whole left : List ℕ) : Type 0 where
  pub no_longer : length left ≤ length whole
  pub each : (k : ℕ) → k < length left → (slice_index left k ≡ 0) ⊎ (slice_index left k ≡ slice_index whole k)

-- nothing; or a gate that 00 closes, or an open one in a file of less than 15 bytes, and what a write of these bytes may have left after it
abbrev pub IsUnfinished : List ℕ → List ℕ → Type 0
IsUnfinished whole [] = Unit {0}
IsUnfinished whole (gate ∷ rest) = ((gate ≡ 0) ⊎ ((gate ≡ open_gate) × (length rest < 14))) × IsLeftOf whole rest

-- a beginning of a store of that form may have left the bytes, before its last write: the header and a closed gate after it, or a part
abbrev pub CanBegin : Form → List ℕ → Type 0
CanBegin form bytes = IsUnfinished (header_tail form ++ 0 ∷ []) bytes
