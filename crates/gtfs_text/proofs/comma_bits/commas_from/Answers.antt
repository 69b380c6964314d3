use Rattle.std.proofs.Common.{◌+◌, ◌-◌, ◌∙◌, arith, inl, inr}
use Rattle.std.proofs.lemmas.Bool.{cases_lt}
use Rattle.gtfs_text.proofs.CommaMarks.{inside_line, marks_of_line, past_line}
use Rattle.gtfs_text.proofs.comma_bits.commas_from.Goals as goal

pub returns-then-size-at-lt64 : goal.returns-then-size-at-lt64
returns-then-size-at-lt64 c =
    let text = c.args.text.now in
    let size = c.args.size in
    let at = c.args.at in
    marks_of_line text size at _ (λ k bound. elim (cases_lt k (size - at)) [
      | inl within ↦ c.below.ensures.kept k within ∙ c.commas_in_block-commas.ensures k bound ∙ inside_line text size (at + k) (omega (arith, within))
      | inr past ↦ c.below.ensures.gone k past ∙ past_line text size (at + k) (omega (arith, past))
    ])

pub returns-else-size-at-lt64 : goal.returns-else-size-at-lt64
returns-else-size-at-lt64 c =
    let text = c.args.text.now in
    marks_of_line text c.args.size c.args.at _ (λ k bound. c.commas_in_block-commas.ensures k bound ∙ inside_line text c.args.size (c.args.at + k) (omega arith))
