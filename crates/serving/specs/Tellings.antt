-- Replies to lines, as text, and what of them stands on the output.
use Rattle.std.specs.Prelude.{◌⊎◌, ℕ, List, Option, MatchOption}
use Rattle.std.specs.Io.KnownBytes.{Appends}
use Rattle.board.specs.Ties.{BoardPart}
use Rattle.answer_lines.specs.Printing.{AppendsBeginning}
use Rattle.question_lines.specs.Questions.{IsQuestion, NotQuestion}
use Rattle.questions.specs.declared.question.Question.{Question}
use Rattle.reply_lines.specs.Printed.{no_memory}
use Rattle.reply_lines.specs.Tellings.{Telling}
use Rattle.reply_lines.specs.declared.reply.Reply.{Reply}

-- the line is this question, or none
abbrev pub IsAsking : List ℕ → Option Question → Type 0
IsAsking line question = MatchOption question (NotQuestion line) (IsQuestion line)

-- The text reports a reply to the line that is right, by what a reader knew before it and knows after it.
abbrev pub IsReplyText : Telling → (List ℕ → BoardPart → BoardPart → Reply → Type 0) → List ℕ → BoardPart → BoardPart → List ℕ → Type 0
IsReplyText tells Right line old new text =
    (question : Option Question) × (reply : Reply) × IsAsking line question × Right line old new reply × tells question reply text

-- the reply is printed, or that memory was refused
abbrev pub IsPrinted : (Reply → List ℕ → Type 0) → Reply → Option (List ℕ) → Option (List ℕ) → Type 0
IsPrinted tells reply old new = (text : List ℕ) × (tells reply text ⊎ tells no_memory text) × Appends old new text

-- a beginning of the same
abbrev pub IsBegun : (Reply → List ℕ → Type 0) → Reply → Option (List ℕ) → Option (List ℕ) → Type 0
IsBegun tells reply old new = (text : List ℕ) × (tells reply text ⊎ tells no_memory text) × AppendsBeginning old new text
