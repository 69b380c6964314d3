use Rattle.std.proofs.Common.{◌≡◌, List, ℕ, Option, None, Some, MatchOption, inl, inr, subst, ◌∙◌, arith}
use Rattle.question_lines.specs.Lines.{IsKept}
use Rattle.question_lines.specs.Questions.{IsQuestion, NotQuestion}
use Rattle.questions.specs.declared.question.Question.{Question}
use Rattle.question_lines.proofs.line.Line.question.Goals as goal

-- a line that is kept is the same question
same_question : (line kept : List ℕ) (r : Option Question) → IsKept line kept → MatchOption r (NotQuestion kept) (IsQuestion kept)
    → MatchOption r (NotQuestion line) (IsQuestion line)
same_question line kept r (inl same) is = subst (λ l. MatchOption r (NotQuestion l) (IsQuestion l)) same is
same_question line kept None (inr long) is = λ question asked. let short = asked.short in absurd (omega (arith, short, long.0))
same_question line kept (Some question) (inr long) is = let short = is.short in absurd (omega (arith, short, long.1))

pub returns : goal.returns
returns c = λ line kept.
    let same : c.deref.result.now ≡ c.args.self.now = c.deref.ensures.value ∙ c.self.view_is in
    same_question line c.args.self.now c.question_of.result kept (subst (λ (l : List ℕ). MatchOption c.question_of.result (NotQuestion l) (IsQuestion l)) same c.question_of.ensures)
