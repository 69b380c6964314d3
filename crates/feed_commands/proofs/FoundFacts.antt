-- What is found of an answer or a report.
use Rattle.std.proofs.Common.{◌≡◌, ◌∙◌, Result, Ok, Err, IfOk, IfErr, MatchResult, refl, sym, subst}
use Rattle.answer_lines.specs.declared.answer.Answer.{Answer}
use Rattle.answer_lines.specs.declared.report.Report.{Report}
use Rattle.connection_lines.specs.declared.connections.Connections.{Connections}
use Rattle.faults.specs.declared.fault.Fault.{Fault}
use Rattle.questions.specs.declared.question.Question.{Question}
use Rattle.feed_commands.specs.Found.{found_by}
use Rattle.feed_commands.specs.Finds.{FindsAnswer, FindsConnections, FindsReport}
use Rattle.feed_commands.specs.declared.found.Found.{Found}
use Rattle.feed_commands.specs.declared.found.Found.TheVariants as founds

pub matched : {T E : Type 0} (r : Result T E) (P : T → Type 0) (Q : E → Type 0) → IfOk r P → IfErr r Q → MatchResult r P Q
matched (Ok x) P Q ok err = ok
matched (Err e) P Q ok err = err

-- what was made is as its call says
pub made_ok : {X E : Type 0} (r made : Result X E) (x : X) (P : X → Type 0) → IfOk r P → made ≡ r → made ≡ Ok x → P x
made_ok {X} {E} r made x P ok is done = let e : r ≡ Ok x = sym is ∙ done in subst (λ (q : Result X E). IfOk q P) e ok

pub answer_found : (question : Question) (answer : Result Answer Fault) (found : Result Found Fault) (Right : Answer → Type 0)
    (Wrong : Fault → Type 0) → found ≡ found_by (λ a. founds.Answer question a) answer → MatchResult answer Right Wrong
    → MatchResult found (FindsAnswer Right) Wrong
answer_found question (Ok a) found Right Wrong is right =
    subst (λ (f : Result Found Fault). MatchResult f (FindsAnswer Right) Wrong) (sym is) (question, a, refl, right)
answer_found question (Err fault) found Right Wrong is wrong =
    subst (λ (f : Result Found Fault). MatchResult f (FindsAnswer Right) Wrong) (sym is) wrong

pub connections_found : (question : Question) (answer : Result Connections Fault) (found : Result Found Fault) (Right : Connections → Type 0)
    (Wrong : Fault → Type 0) → found ≡ found_by (λ a. founds.Connections question a) answer → MatchResult answer Right Wrong
    → MatchResult found (FindsConnections Right) Wrong
connections_found question (Ok a) found Right Wrong is right =
    subst (λ (f : Result Found Fault). MatchResult f (FindsConnections Right) Wrong) (sym is) (question, a, refl, right)
connections_found question (Err fault) found Right Wrong is wrong =
    subst (λ (f : Result Found Fault). MatchResult f (FindsConnections Right) Wrong) (sym is) wrong

pub report_found : (report : Result Report Fault) (found : Result Found Fault) (Right : Report → Type 0) (Wrong : Fault → Type 0)
    → found ≡ found_by (λ r. founds.Report r) report → MatchResult report Right Wrong → MatchResult found (FindsReport Right) Wrong
report_found (Ok r) found Right Wrong is right =
    subst (λ (f : Result Found Fault). MatchResult f (FindsReport Right) Wrong) (sym is) (r, refl, right)
report_found (Err fault) found Right Wrong is wrong =
    subst (λ (f : Result Found Fault). MatchResult f (FindsReport Right) Wrong) (sym is) wrong

pub report_refused : (report : Result Report Fault) (found : Result Found Fault) (Q : Fault → Type 0) → found ≡ found_by (λ r. founds.Report r) report
    → IfErr report Q → IfErr found Q
report_refused (Ok r) found Q is h = subst (λ (f : Result Found Fault). IfErr f Q) (sym is) tt
report_refused (Err fault) found Q is h = subst (λ (f : Result Found Fault). IfErr f Q) (sym is) h
