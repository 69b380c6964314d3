use Rattle.std.proofs.Common.{Option, ◌≡◌, ℕ, List, length, sym, ◌∙◌, ap}
use Rattle.stop_labels.specs.Mark.{Mark, at}
use Rattle.stop_labels.specs.Labels.{with_moments}
use Rattle.stop_labels.proofs.Listed.{whole_of}
use Rattle.stop_labels.proofs.LabelSteps.{with_length, none_kept, none_agreed}
use Rattle.stop_labels.proofs.labels.Labels.forget.Goals as goal

pub invariant_of-self : goal.invariant_of-self
invariant_of-self c =
    let i = c.self.inside in
    let moments = c.clear_moments.new.moments in
    let w = whole_of i.arrivals.len moments i.arrivals.items c.deref_mut.result.now c.deref_mut.ensures.value c.deref_mut.ensures.len c.clear_moments.auto.moments in
    rw w (none_agreed moments i.labels.items
    (c.self.invariant.size ∙ sym (c.clear_moments.auto.moments ∙ ap (length {A = Option ℕ}) c.deref_mut.ensures.value)) c.clear_moments.ensures)

pub returns-clause-size : goal.returns-clause-size
returns-clause-size c =
    let i = c.self.inside in
    let moments = c.clear_moments.new.moments in
    let w = whole_of i.arrivals.len moments i.arrivals.items c.deref_mut.result.now c.deref_mut.ensures.value c.deref_mut.ensures.len c.clear_moments.auto.moments in
    let long : length moments ≡ length i.arrivals.items = c.clear_moments.auto.moments ∙ ap (length {A = Option ℕ}) c.deref_mut.ensures.value in
    ap (λ (ms : List (Option ℕ)). length (with_moments ms i.labels.items)) w
    ∙ (with_length moments i.labels.items (c.self.invariant.size ∙ sym long) ∙ (long
    ∙ (sym (with_length i.arrivals.items i.labels.items c.self.invariant.size) ∙ ap (length {A = Option Mark}) c.self.view_is)))

pub returns-clause-none : goal.returns-clause-none
returns-clause-none c = λ stop.
    let i = c.self.inside in
    let moments = c.clear_moments.new.moments in
    let w = whole_of i.arrivals.len moments i.arrivals.items c.deref_mut.result.now c.deref_mut.ensures.value c.deref_mut.ensures.len c.clear_moments.auto.moments in
    let long : length moments ≡ length i.arrivals.items = c.clear_moments.auto.moments ∙ ap (length {A = Option ℕ}) c.deref_mut.ensures.value in
    ap (λ (ms : List (Option ℕ)). at (with_moments ms i.labels.items) stop) w ∙ none_kept moments i.labels.items (c.self.invariant.size ∙ sym long) c.clear_moments.ensures stop
