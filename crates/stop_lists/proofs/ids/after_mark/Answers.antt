use Rattle.std.proofs.Common.{◌∙◌, sym}
use Rattle.stop_lists.proofs.MarkFacts.{mark_gone, no_mark}
use Rattle.stop_lists.proofs.ids.after_mark.Goals as goal

pub returns : goal.returns
returns c = no_mark _ (sym c.starts_with.ensures.value ∙ c.if-starts_with.false)

pub returns-then-starts_with : goal.returns-then-starts_with
returns-then-starts_with c = c.split_at.ensures.back ∙ mark_gone _ (sym c.starts_with.ensures.value ∙ c.if-starts_with.true)
