-- The lines of an input are those of `str::lines`: each ends at a line feed, with which a carriage return before it goes, and the last one
-- may lack its line feed.
use Rattle.std.specs.Prelude.{◌≡◌, ◌⊎◌, ℕ, ◌<◌, Bool, true, false, List, [], ◌∷◌, length, Option, Some, IfSome}
use Rattle.std.specs.Str.Lines.{lines}

-- what is kept of a line is the line, or both are longer than any question
abbrev pub IsKept : List ℕ → List ℕ → Type 0
IsKept line kept = (kept ≡ line) ⊎ ((65_536 < length line) × (65_536 < length kept))

-- the input loses its first line, and that is kept
pub record LosesLine (input : List ℕ) (left : Option (List ℕ)) (kept : List ℕ) : Type 0 where
  pub line : List ℕ
  pub rest : List ℕ
  pub left_is : left ≡ Some rest
  pub first : lines input ≡ line ∷ lines rest
  pub is : IsKept line kept

-- the input has no line, and nothing is left of it
pub record HasNoLine (input : List ℕ) (left : Option (List ℕ)) : Type 0 where
  pub none : lines input ≡ []
  pub left_is : left ≡ Some []

-- a known input loses its first line, which is kept; or it has none
abbrev pub ReadsLine : Option (List ℕ) → Option (List ℕ) → List ℕ → Bool → Type 0
ReadsLine old new kept true = IfSome old (λ input. LosesLine input new kept)
ReadsLine old new kept false = IfSome old (λ input. HasNoLine input new)
