use Rattle.std.proofs.Common.{ℕ, Option, List, length, arith, ap, sym, ◌∙◌}
use Rattle.stop_labels.specs.Mark.{arrival_of}
use Rattle.stop_labels.specs.Row.{when}
use Rattle.stop_labels.proofs.Listed.{whole_of}
use Rattle.stop_labels.proofs.RowSteps.{settled_row}
use Rattle.stop_labels.proofs.row.Row.forget.Goals as goal

pub invariant_of-self : goal.invariant_of-self
invariant_of-self c =
    let i = c.self.inside in
    let size = length {A = Option ℕ} in
    let w = whole_of i.settled.len c.clear_moments.new.moments i.settled.items c.deref_mut.result.now c.deref_mut.ensures.value c.deref_mut.ensures.len c.clear_moments.auto.moments in
    let is = c.self.invariant in
    let fits = is.room in
    let same = c.clear.ensures.capacity in
    let long = c.forget.ensures.size in
    settled_row _ _ _ _ c.clear.ensures.items
    (ap size w ∙ (c.clear_moments.auto.moments ∙ (ap size c.deref_mut.ensures.value ∙ (is.size ∙ sym long))))
    (omega (arith, fits, same, long))
    (λ p. ap arrival_of (c.forget.ensures.none p) ∙ sym (ap (λ (ms : List (Option ℕ)). when ms p) w ∙ c.clear_moments.ensures p))
