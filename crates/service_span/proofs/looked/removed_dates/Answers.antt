use Rattle.std.proofs.Common.{◌≡◌, ◌∙◌, sym, ap, not, Bool, ◌||◌, ◌&&◌, true, false}
use Rattle.std.specs.Ordering.{int_eq}
use Rattle.std.specs.Str.{bytes_eq}
use Rattle.jiff_core.specs.Date.{epoch_day}
use Rattle.service_days.specs.Runs.{removes, is_added}
use Rattle.service_span.specs.Looked.{is_removed}
use Rattle.service_span.proofs.Bools.{any_step, or_false}
use Rattle.service_span.proofs.LookedFacts.{removed_more, removes_test, removes_not}
use Rattle.service_span.proofs.looked.removed_dates.Goals as goal
use Rattle.service_span.proofs.looked.removed_dates.Goals.{then-not-is_added+in_ok-insert, else-not-is_added}

pub loop-row-preserved : goal.loop-row-preserved
loop-row-preserved c = λ service date.
    let row = c.row-item.result in
    let old = c.loop-row.removed in
    any_step (removes service date) c.args.exceptions.now c.loop-row.row-index row (is_removed old service date) (is_removed c.if-not-is_added.removed service date)
    c.loop-row-test.true c.row-item.is (c.loop-row.invariant service date)
    (elim c.if-not-is_added.branch [
      | then-not-is_added+in_ok-insert w ↦
          let gone : not (is_added row.change) ≡ true = ap not (sym c.is_added.ensures ∙ w.if-not-is_added.true) in
          rw w.removed-is (removed_more (w.as_str.result, w.day_number.result) row.date old w.insert.new.self w.day_number.ensures.value w.in_ok-insert.ensures.updates service date
          ∙ ap (λ (b : Bool). is_removed old service date || b) (ap (λ s. bytes_eq s service && int_eq (epoch_day row.date) (epoch_day date)) w.as_str.ensures ∙ sym (removes_test row service date gone)))
      | else-not-is_added w ↦
          let stays : not (is_added row.change) ≡ false = ap not (sym c.is_added.ensures ∙ w.if-not-is_added.false) in
          rw w.removed-is (sym (or_false (is_removed old service date)) ∙ ap (λ (b : Bool). is_removed old service date || b) (sym (removes_not row service date stays)))
    ])
