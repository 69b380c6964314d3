-- How an input goes on within a line. Only private clauses cite these words.
use Rattle.std.specs.Prelude.{◌≡◌, ◌==◌, ℕ, false, List, [], ◌∷◌, ◌++◌, take, Option, OnSome}
use Rattle.std.specs.List.{All}
use Rattle.std.specs.Io.KnownBytes.{Consumes, IsAtEnd}
use Rattle.question_lines.specs.declared.reading.Part.{Part}
use Rattle.question_lines.specs.declared.reading.Part.TheVariants as parts

-- no line feed is among the bytes
abbrev pub LacksFeed : List ℕ → Type 0
LacksFeed bytes = All (λ b. (b == 10) ≡ false) bytes

-- what is read after the bytes of a line
abbrev pub end_of : Part → List ℕ
end_of parts.More = []
end_of parts.Line = 10 ∷ []
end_of parts.Rest = []

-- The input loses some bytes without a line feed, and the line's end if it was read. Of the line so far the first 65,538 bytes are kept.
-- If nothing more was there, the input is at its end.
pub record GoesOn (old new : Option (List ℕ)) (before after : List ℕ) (part : Part) : Type 0 where
  pub bytes : List ℕ
  pub plain : LacksFeed bytes
  pub lost : Consumes old new (bytes ++ end_of part)
  pub kept : after ≡ take 65_538 (before ++ bytes)
  pub ended : part ≡ parts.Rest → (bytes ≡ []) × OnSome old (IsAtEnd new)

-- the input has lost these bytes of a line without its end, and what of them is kept
pub record IsWithinLine (old new : Option (List ℕ)) (kept : List ℕ) : Type 0 where
  pub bytes : List ℕ
  pub plain : LacksFeed bytes
  pub lost : Consumes old new bytes
  pub kept_is : kept ≡ take 65_538 bytes
