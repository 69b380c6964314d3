use Rattle.std.proofs.Common.{◌≡◌, rules, ap₂, unsigned_abs, ◌++◌, ◌∙◌}
use Rattle.std.proofs.Output.{has_written_of_eq}
use Rattle.std.specs.Fmt.{styled_decimal}
use Rattle.answer_lines.proofs.PrintedFacts.{four_digits, two_digits}
use Rattle.answer_lines.proofs.moment.ShownDateDisplay.fmt.Goals as goal

pub returns-clause-writes : goal.returns-clause-writes
returns-clause-writes g c plain ok =
    let date = c.args.self.now.0 in
    let year = unsigned_abs date.year in
    let is_year : c.unsigned_abs-year.result ≡ year = search rules in
    has_written_of_eq _ _ _ _ _ (
    ap₂ (λ a b. a ++ b) (ap₂ styled_decimal c.laid_out.ensures is_year ∙ four_digits year) (
    ap₂ (λ a b. a ++ b) (ap₂ styled_decimal c.laid_out-2.ensures c.month-month.ensures ∙ two_digits date.month)
    (ap₂ styled_decimal c.laid_out-3.ensures c.day-day.ensures ∙ two_digits date.day))) (c.write.ensures.writes plain ok)
