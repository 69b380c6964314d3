use Rattle.std.proofs.Common.{Option, ◌≡◌, ℕ, Some, List, get_or, sym, ◌∙◌, ap}
use Rattle.stop_labels.specs.Mark.{Mark, at, arrival_of}
use Rattle.stop_labels.specs.Labels.{AreAgreed, with_moments}
use Rattle.stop_labels.proofs.LabelSteps.{some_kept}
use Rattle.stop_labels.proofs.labels.Labels.label.Goals as goal

-- the label that was read, if there is a moment
read_label : (moments : List (Option ℕ)) (labels : List Mark) (marks : List (Option Mark)) (stop a : ℕ) (moment : Option ℕ) (label : Mark) → AreAgreed moments labels
    → with_moments moments labels ≡ marks → moment ≡ arrival_of (at marks stop) → moment ≡ Some a
    → label ≡ get_or labels stop label → at marks stop ≡ Some label
read_label moments labels marks stop a moment label is same of here read =
    let there = is.same stop ∙ (ap (λ (ms : List (Option Mark)). arrival_of (at ms stop)) same ∙ (sym of ∙ here)) in
    ap (λ (ms : List (Option Mark)). at ms stop) (sym same) ∙ (some_kept moments labels stop a label is.size there ∙ ap (λ m. Some m) (sym read))

pub returns-in-Some-clause-some : goal.returns-in-Some-clause-some
returns-in-Some-clause-some c =
    let i = c.self.inside in
    read_label i.arrivals.items i.labels.items c.args.self.now c.args.stop c.in-Some.field-0 c.arrival.result c.index.result.now c.self.invariant c.self.view_is
    c.arrival.ensures.value c.in-Some.is c.index.ensures
