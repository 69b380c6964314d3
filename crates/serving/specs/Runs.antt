-- What stands on the output once the lines of an input are replied to.
use Rattle.std.specs.Prelude.{◌≡◌, ℕ, List, [], ◌∷◌, ◌++◌, Option, Some}
use Rattle.std.specs.Io.KnownBytes.{Appends, Keeps}
use Rattle.std.specs.List.{concat}
use Rattle.std.specs.Str.Lines.{lines}
use Rattle.board.specs.Ties.{BoardPart}
use Rattle.answer_lines.specs.Printing.{AppendsBeginning}
use Rattle.serving.specs.declared.serving.End.{End}
use Rattle.serving.specs.declared.serving.End.TheVariants as ends

-- which texts are right as the reply to a line, by what a reader knew before it and knows after it
abbrev pub IsRight : Type 1
IsRight = List ℕ → BoardPart → BoardPart → List ℕ → Type 0

-- the replies to lines, one after the other, as what the reader knows goes on
abbrev pub AreReplies : IsRight → List (List ℕ) → BoardPart → BoardPart → List (List ℕ) → Type 0
AreReplies Right [] old new [] = new ≡ old
AreReplies Right [] old new (reply ∷ replies) = ⊥
AreReplies Right (line ∷ lines) old new [] = ⊥
AreReplies Right (line ∷ lines) old new (reply ∷ replies) =
    (seen : BoardPart) × Right line old seen reply × AreReplies Right lines seen new replies

-- the text is right replies to these lines, one after the other
pub record AreAnswered (Right : IsRight) (lines : List (List ℕ)) (start : BoardPart) (text : List ℕ) : Type 0 where
  pub last : BoardPart
  pub replies : List (List ℕ)
  pub are : AreReplies Right lines start last replies
  pub text_is : text ≡ concat replies

-- these lines are the first of the input's
abbrev pub AreFirst : List (List ℕ) → List ℕ → Type 0
AreFirst front input = (others : List (List ℕ)) × (lines input ≡ front ++ others)

-- All lines of the input are replied to, each on the output. Or the first ones are, since the input couldn't be read on. Or a beginning of
-- the replies to the first ones stands there, since the output refused more. Or there was no memory to read a line.
abbrev pub IsServed : IsRight → BoardPart → List ℕ → Option (List ℕ) → Option (List ℕ) → End → Type 0
IsServed Right start input old new ends.AllRead = (text : List ℕ) × AreAnswered Right (lines input) start text × Appends old new text
IsServed Right start input old new ends.Unread =
    (front : List (List ℕ)) × (text : List ℕ) × AreFirst front input × AreAnswered Right front start text × Appends old new text
IsServed Right start input old new ends.OutputRefused =
    (front : List (List ℕ)) × (text : List ℕ) × AreFirst front input × AreAnswered Right front start text × AppendsBeginning old new text
IsServed Right start input old new ends.NoMemory = Keeps old new

-- one line is replied to
abbrev pub IsReplied : IsRight → List ℕ → BoardPart → BoardPart → Option (List ℕ) → Option (List ℕ) → Type 0
IsReplied Right line start last old new = (reply : List ℕ) × Right line start last reply × Appends old new reply

-- a beginning of the reply to one line stands on the output
abbrev pub IsCutOff : IsRight → List ℕ → BoardPart → BoardPart → Option (List ℕ) → Option (List ℕ) → Type 0
IsCutOff Right line start last old new = (reply : List ℕ) × Right line start last reply × AppendsBeginning old new reply

-- so far lines of the input are replied to, and these bytes of it are left
pub record IsServedSoFar (Right : IsRight) (start : BoardPart) (input : List ℕ) (old : Option (List ℕ)) (left : Option (List ℕ)) (now : BoardPart)
    (new : Option (List ℕ)) : Type 0 where
  pub front : List (List ℕ)
  pub rest : List ℕ
  pub left_is : left ≡ Some rest
  pub all : lines input ≡ front ++ lines rest
  pub replies : List (List ℕ)
  pub are : AreReplies Right front start now replies
  pub written : Appends old new (concat replies)
