use Rattle.std.proofs.Common.{Option, ℕ, None, List, replicate, sym, ◌∙◌, ap}
use Rattle.std.proofs.lemmas.List.{length-replicate}
use Rattle.stop_labels.specs.Labels.{with_moments}
use Rattle.stop_labels.proofs.LabelSteps.{none_agreed, none_with, no_moment}
use Rattle.stop_labels.proofs.labels.Labels.empty.Goals as goal

pub invariant_of-result : goal.invariant_of-result
invariant_of-result c =
    let n = c.args.stops in
    rw c.in_ok-no_moments.ensures (none_agreed (replicate {A = Option ℕ} n None) c.in_ok-no_labels.field-0.items
    (c.in_ok-no_labels.ensures ∙ sym (length-replicate {A = Option ℕ} n None)) (no_moment n))

pub returns : goal.returns
returns c =
    ap (λ (ms : List (Option ℕ)). with_moments ms c.in_ok-no_labels.field-0.items) c.in_ok-no_moments.ensures
    ∙ none_with c.args.stops c.in_ok-no_labels.field-0.items c.in_ok-no_labels.ensures
