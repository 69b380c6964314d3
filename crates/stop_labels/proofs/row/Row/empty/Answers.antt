use Rattle.std.proofs.Common.{◌≡◌, ℕ, Option, List, None, length, arith, replicate, ap, sym, ◌∙◌}
use Rattle.std.proofs.lemmas.List.{length-replicate}
use Rattle.stop_labels.specs.Mark.{Mark, at, arrival_of}
use Rattle.stop_labels.specs.Row.{when}
use Rattle.stop_labels.proofs.RowSteps.{empty_at, settled_row, empty_when}
use Rattle.stop_labels.proofs.row.Row.empty.Goals as goal

pub invariant_of-result : goal.invariant_of-result
invariant_of-result c =
    let n = c.args.stops in
    let marks = c.in_ok-empty.field-0 in
    let settled = c.in_ok-no_moments.field-0.items in
    let e : marks ≡ replicate {A = Option Mark} n None = c.in_ok-empty.ensures in
    let f : settled ≡ replicate {A = Option ℕ} n None = c.in_ok-no_moments.ensures in
    let long : length marks ≡ n = ap (length {A = Option Mark}) e ∙ length-replicate {A = Option Mark} n None in
    let long' : length settled ≡ n = ap (length {A = Option ℕ}) f ∙ length-replicate {A = Option ℕ} n None in
    let room = c.in_ok-with_capacity.ensures.capacity in
    settled_row marks settled _ _ c.in_ok-with_capacity.ensures.items (long' ∙ sym long) (omega (arith, room, long))
    (λ p. ap (λ (ms : List (Option Mark)). arrival_of (at ms p)) e ∙ (ap arrival_of (empty_at n p) ∙ sym (ap (λ (ms : List (Option ℕ)). when ms p) f ∙ empty_when n p)))

pub returns-clause-size : goal.returns-clause-size
returns-clause-size c = ap (length {A = Option Mark}) c.in_ok-empty.ensures ∙ length-replicate {A = Option Mark} c.args.stops None

pub returns-clause-none : goal.returns-clause-none
returns-clause-none c = λ stop. ap (λ (ms : List (Option Mark)). at ms stop) c.in_ok-empty.ensures ∙ empty_at c.args.stops stop

pub returns-clause-fresh : goal.returns-clause-fresh
returns-clause-fresh c = λ stop. ap (λ (ms : List (Option ℕ)). when ms stop) c.in_ok-no_moments.ensures ∙ empty_when c.args.stops stop
