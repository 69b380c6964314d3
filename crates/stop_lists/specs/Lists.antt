-- Which ids a file lists: one on each line.
-- A line ends at a line feed, with which a carriage return before it goes; the last one may lack its line feed, as of `str::lines`. A byte
-- order mark at the front is no part of the text (Unicode Standard, section 23.8).
use Rattle.std.specs.Prelude.{◌≡◌, ◌==◌, ◌<◌, ◌≤◌, ◌+◌, ◌++◌, ◌∷◌, ℕ, not, Contains, List, filter, length}
use Rattle.std.specs.Str.{IsUtf8}
use Rattle.std.specs.Str.Lines.{lines}
use Rattle.csv.specs.Reading.{strip_bom}
use Rattle.stop_lists.specs.declared.fault.ListFault.{ListFault}
use Rattle.stop_lists.specs.declared.fault.ListFault.TheVariants as faults
use Rattle.stop_lists.specs.declared.reading.TheConstants.{LONGEST}

-- the lines of a file that aren't empty
abbrev pub ids_in : List ℕ → List (List ℕ)
ids_in bytes = filter (λ line. not (length line == 0)) (lines (strip_bom bytes))

-- line n of the file is the id, and no line before it is; lines are counted from 1, empty ones too
pub record IsLineOf (bytes id : List ℕ) (n : ℕ) : Type 0 where
  pub before : List (List ℕ)
  pub after : List (List ℕ)
  pub among : lines (strip_bom bytes) ≡ before ++ id ∷ after
  pub earlier : ¬ Contains before id
  pub number : n ≡ length before + 1

-- a file of these bytes is a text, and isn't too large
pub record IsList (bytes : List ℕ) : Type 0 where
  pub small : length bytes ≤ LONGEST
  pub text : IsUtf8 (strip_bom bytes)

-- these are all bytes of a file, which is such a one
pub record IsContent (bytes content : List ℕ) : Type 0 where
  pub same : content ≡ bytes
  pub list : IsList bytes

-- why a file of these bytes isn't read; reads may fail at any time, and so may memory
abbrev pub Explains : List ℕ → ListFault → Type 0
Explains bytes faults.ReadFailed = Unit {0}
Explains bytes faults.BadText = ¬ IsUtf8 (strip_bom bytes)
Explains bytes faults.TooLarge = LONGEST < length bytes
Explains bytes faults.Memory = Unit {0}
