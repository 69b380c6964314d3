use Rattle.std.proofs.Common.{◌≡◌, ◌+◌, ◌-◌, Bool, true, false, ◌||◌, arith, sym, ◌∙◌, ap}
use Rattle.reaching.specs.Steps.{arrival_at, is_some_by, is_within}
use Rattle.reaching.proofs.TallyFacts.{tally-all, tally-same}
use Rattle.reaching.proofs.StepFacts.{is_ridden}
use Rattle.reaching.proofs.steps.Steps.count_within.Goals as goal

pub returns-then-is_some_by : goal.returns-then-is_some_by
returns-then-is_some_by c =
    let steps = c.args.self.now in
    let x = c.args.seconds in
    let on : is_some_by c.args.walk x ≡ true = sym c.is_some_by.ensures ∙ c.if-is_some_by.true in
    let all = tally-all (is_within c.args.walk steps x) c.args.first (c.args.last + 1 - c.args.first)
    (λ d. ap (λ (b : Bool). b || is_some_by (arrival_at steps d) (d + x)) on) in
    let low = c.from-then-is_some_by.ensures in
    let high = c.from.ensures in
    omega (arith, all, low, high)

pub returns : goal.returns
returns c =
    let steps = c.args.self.now in
    let x = c.args.seconds in
    let off : is_some_by c.args.walk x ≡ false = sym c.is_some_by.ensures ∙ c.if-is_some_by.false in
    c.ridden_within.ensures
    ∙ sym (tally-same (is_within c.args.walk steps x) (is_ridden steps x) c.args.first (c.args.last + 1 - c.args.first)
    (λ d _ _. ap (λ (b : Bool). b || is_some_by (arrival_at steps d) (d + x)) off))
