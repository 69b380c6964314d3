-- How replies are shown as lines.
use Rattle.std.specs.Prelude.{ℕ, List, [], ◌∷◌, ◌++◌, codes}
use Rattle.pattern_query.specs.Refusals.{refusal_text as question_text}
use Rattle.answer_lines.specs.Printed.{answer_text}
use Rattle.connection_lines.specs.Printed.{connections_text}
use Rattle.reply_lines.specs.declared.reply.Refusal.{Refusal}
use Rattle.reply_lines.specs.declared.reply.Refusal.TheVariants as refusals
use Rattle.reply_lines.specs.declared.reply.Reply.{Reply}
use Rattle.reply_lines.specs.declared.reply.Reply.TheVariants as replies

-- the code and the name of a refusal, and the id that it is about, as far as it has them
abbrev pub refusal_text : Refusal → List ℕ
refusal_text refusals.BadLine = codes "BadLine"
refusal_text refusals.BoardRefused = codes "Q4 BoardRefused"
refusal_text (refusals.Question refusal) = question_text refusal
refusal_text refusals.Memory = codes "Memory"

-- a line with only a dot
abbrev pub dot_line : List ℕ
dot_line = 46 ∷ 10 ∷ []

-- the end of a line, and such a line
abbrev pub closing : List ℕ
closing = 10 ∷ dot_line

-- the lines of an answer, of connections or of a refusal, and then a line with only a dot
abbrev pub reply_text : Reply → List ℕ
reply_text (replies.Answer answer) = answer_text answer ++ closing
reply_text (replies.Connections shown) = connections_text shown ++ dot_line
reply_text (replies.Refused refusal) = codes "refused " ++ (refusal_text refusal ++ closing)

-- the reply for want of memory
abbrev pub no_memory : Reply
no_memory = replies.Refused refusals.Memory
