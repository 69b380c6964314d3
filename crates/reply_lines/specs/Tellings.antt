-- The texts of replies.
use Rattle.std.specs.Prelude.{◌≡◌, ℕ, List, Option}
use Rattle.questions.specs.declared.question.Question.{Question}
use Rattle.reply_lines.specs.Printed.{reply_text}
use Rattle.reply_lines.specs.declared.reply.Reply.{Reply}

-- which texts tell a reply to a question, or to a line that is none
abbrev pub Telling : Type 1
Telling = Option Question → Reply → List ℕ → Type 0

-- as lines: those of an answer or a refusal, and then a line with only a dot
abbrev pub line_telling : Telling
line_telling question reply text = text ≡ reply_text reply
