use Rattle.std.proofs.Common.{Some, None, ◌≡◌, ℕ, ◌+◌, ◌-◌, ◌<◌, ◌≤◌, List, length, get_or, arith, sym, ◌∙◌, ap, subst, le_refl}
use Rattle.std.proofs.lemmas.List.{get_or_default}
use Rattle.reaching.specs.declared.steps.Step.{Step}
use Rattle.reaching.specs.Steps.{is_some_by, tally}
use Rattle.reaching.proofs.TallyFacts.{tally_most}
use Rattle.reaching.proofs.StepFacts.{HasCounted, counted_all, counted_more, counted_none, counted_short}
use Rattle.reaching.proofs.steps.Steps.ridden_within.Goals as goal

pub loop-step-init : goal.loop-step-init
loop-step-init c =
    subst (λ (end : ℕ). HasCounted c.args.self.now c.args.first c.args.last c.args.seconds 0 0 (end + 1) None) (sym c.from-end.ensures)
    (counted_none c.args.self.now c.args.first c.args.last c.args.seconds c.requires.some c.requires.steps)

pub loop-step-preserved : goal.loop-step-preserved
loop-step-preserved c =
    let steps = c.args.self.now in
    let list = c.deref-step-items.result.now in
    let i = c.loop-step.step-index in
    let step : Step = get_or list i (record { until = 0; arrival = 0 }) in
    let same : list ≡ steps = c.deref-step-items.ensures.value ∙ c.self.view_is in
    let is : get_or steps i step ≡ step =
    ap (λ (l : List Step). get_or l i step) (sym same)
    ∙ get_or_default list i step (record { until = 0; arrival = 0 }) c.loop-step-test.true in
    let next = c.from-next.ensures in
    let total = c.loop-step.total in
    let end = c.loop-step.end in
    let x = c.args.seconds in
    let By = λ (d : ℕ). is_some_by c.loop-step.arrival (d + x) in
    let Has = λ (n e : ℕ). HasCounted steps c.args.first c.args.last x (i + 1) n e (Some step.arrival) in
    let more = counted_more steps c.args.first c.args.last x c.requires.some c.requires.steps i total end c.loop-step.arrival
    c.loop-step.invariant step (subst (λ (l : List Step). i < length l) same c.loop-step-test.true) is in
    subst (λ (n : ℕ). Has (total + n) (c.from-next.result + 1)) (sym c.seconds_by-total.ensures)
    (subst (λ (u : ℕ). Has (total + tally By (u + 1) (end - (u + 1))) (u + 1)) (sym next) more)

pub returns : goal.returns
returns c =
    let steps = c.args.self.now in
    let list = c.deref-step-items.result.now in
    let same : list ≡ steps = c.deref-step-items.ensures.value ∙ c.self.view_is in
    let past = subst (λ (l : List Step). length l ≤ c.loop-step.step-index) same c.loop-step-test.false in
    let all = counted_all steps c.args.first c.args.last c.args.seconds c.requires.some c.requires.steps c.loop-step.step-index
    c.loop-step.total c.loop-step.end c.loop-step.arrival c.loop-step.invariant past in
    let from : c.from.result ≡ c.args.first = c.from.ensures in
    let By = λ (d : ℕ). is_some_by c.loop-step.arrival (d + c.args.seconds) in
    let rest : c.seconds_by.result ≡ tally By c.args.first (c.loop-step.end - c.args.first) =
    subst (λ (low : ℕ). c.seconds_by.result ≡ tally By low (c.loop-step.end - low)) from c.seconds_by.ensures in
    ap (λ (n : ℕ). c.loop-step.total + n) rest ∙ all

pub seconds_by-total-requires : goal.seconds_by-total-requires
seconds_by-total-requires c =
    let steps = c.args.self.now in
    let list = c.deref-step-items.result.now in
    let i = c.loop-step.step-index in
    let step : Step = get_or list i (record { until = 0; arrival = 0 }) in
    let same : list ≡ steps = c.deref-step-items.ensures.value ∙ c.self.view_is in
    let above : step.until < c.loop-step.end =
    subst (λ (l : List Step). (get_or l i (record { until = 0; arrival = 0 })).until < c.loop-step.end) (sym same)
    (c.loop-step.invariant.above i (record { until = 0; arrival = 0 }) (le_refl i)
    (subst (λ (l : List Step). i < length l) same c.loop-step-test.true)) in
    let next = c.from-next.ensures in
    omega (arith, above, next)

pub overflow_add-total : goal.overflow_add-total
overflow_add-total c =
    let short = counted_short c.args.self.now c.args.first c.args.last c.args.seconds c.requires.some c.requires.steps
    c.loop-step.step-index c.loop-step.total c.loop-step.end c.loop-step.arrival c.loop-step.invariant in
    let most = tally_most (λ d. is_some_by c.loop-step.arrival (d + c.args.seconds)) (c.from-next.result + 1)
    (c.loop-step.end - (c.from-next.result + 1)) in
    let is = c.seconds_by-total.ensures in
    let last = c.ranges.last.fits in
    omega (arith, short, most, is, last)

pub overflow_add-result : goal.overflow_add-result
overflow_add-result c =
    let short = counted_short c.args.self.now c.args.first c.args.last c.args.seconds c.requires.some c.requires.steps
    c.loop-step.step-index c.loop-step.total c.loop-step.end c.loop-step.arrival c.loop-step.invariant in
    let most = tally_most (λ d. is_some_by c.loop-step.arrival (d + c.args.seconds)) c.from.result (c.loop-step.end - c.from.result) in
    let is = c.seconds_by.ensures in
    let last = c.ranges.last.fits in
    omega (arith, short, most, is, last)
