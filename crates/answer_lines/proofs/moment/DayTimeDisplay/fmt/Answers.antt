use Rattle.std.proofs.Common.{ap, ap₂, ◌/◌, ◌%◌, ◌++◌, ◌∷◌, ◌∙◌}
use Rattle.std.proofs.Output.{has_written_of_eq}
use Rattle.std.specs.Fmt.{styled_decimal}
use Rattle.answer_lines.specs.Printed.{date_text}
use Rattle.answer_lines.proofs.PrintedFacts.{two_digits}
use Rattle.answer_lines.proofs.moment.DayTimeDisplay.fmt.Goals as goal

pub returns-clause-writes : goal.returns-clause-writes
returns-clause-writes g c plain ok =
    let seconds = c.args.self.now.seconds in
    has_written_of_eq _ _ _ _ _ (
    ap (λ t. date_text c.args.self.now.date ++ t) (
    ap (λ t. 32 ∷ t) (
    ap₂ (λ a b. a ++ b) (ap (λ s. styled_decimal s (seconds / 3600)) c.laid_out.ensures ∙ two_digits (seconds / 3600)) (
    ap (λ t. 58 ∷ t) (
    ap₂ (λ a b. a ++ b) (ap (λ s. styled_decimal s (seconds / 60 % 60)) c.laid_out-2.ensures ∙ two_digits (seconds / 60 % 60)) (
    ap (λ t. 58 ∷ t) (ap (λ s. styled_decimal s (seconds % 60)) c.laid_out-3.ensures ∙ two_digits (seconds % 60)))))))) (c.write.ensures.writes plain ok)
