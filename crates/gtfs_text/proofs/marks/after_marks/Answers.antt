use Rattle.std.proofs.Common.{◌∙◌, sym}
use Rattle.gtfs_text.proofs.MarkFacts.{one_mark_less, no_mark_left}
use Rattle.gtfs_text.proofs.marks.after_marks.Goals as goal

pub loop-rest-preserved : goal.loop-rest-preserved
loop-rest-preserved c = rw (c.split_at.ensures.back) (one_mark_less _ (sym c.starts_with.ensures.value ∙ c.loop-rest-test.true) ∙ c.loop-rest.invariant)

pub returns : goal.returns
returns c = no_mark_left _ (sym c.starts_with.ensures.value ∙ c.loop-rest-test.false) ∙ c.loop-rest.invariant
