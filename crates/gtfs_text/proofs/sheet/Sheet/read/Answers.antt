use Rattle.std.proofs.Common.{◌∙◌, List, ℕ, ap, arith, length}
use Rattle.gtfs_text.proofs.RowFacts.{kept_length}
use Rattle.gtfs_text.proofs.sheet.Sheet.read.Goals as goal

pub invariant_of-result : goal.invariant_of-result
invariant_of-result c = record {
  text = rw (c.shrink_to_fit.ensures.items, c.truncate.ensures.items) (rw c.deref.ensures.value at c.in_ok-lines.ensures.table_text);
  few = omega (arith, kept_length c.shrink_to_fit.new.self.items c.in_ok-lines.lines.items c.in_ok-lines.packed, rw c.deref.ensures.value at c.in_ok-lines.ensures.few);
  width = c.in_ok-columns.ensures ∙ ap (λ (fields : List (List ℕ)). length fields) (rw (c.deref-2.ensures.value, c.deref-3.ensures.value) at c.row_at.ensures);
}
