use Rattle.std.proofs.Common.{Option, ◌≡◌, ℕ, ◌≤◌, arith, ◌∙◌, subst, le_refl}
use Rattle.std.proofs.lemmas.Result.{on_ok_weaker}
use Rattle.rounds.specs.Answers.{ArrivesWithin}
use Rattle.rounds.specs.Mark.{arrival_in, moment_in}
use Rattle.rounds.specs.Scratch.{rides_of, rounds_of, before_of, source_of, kept_of}
use Rattle.reaching.specs.Steps.{AddsStep, steps_at}
use Rattle.reaching.proofs.WindowFacts.{one_least}
use Rattle.reaching.proofs.gathering.add_event.Goals as goal

-- the view and the scratch have the same least arrivals
pub returns-clause-added : goal.returns-clause-added
returns-clause-added c =
    let k = rides_of c.args.scratch.now in
    let r = c.number.result in
    let until = c.args.until in
    let rounds = rounds_of c.in_ok-view.view in
    let kept = kept_of c.run_kept.follows.lender-at-none in
    let old = c.args.all.now.items in
    let new = c.add_steps.new.all.items in
    let same : r ≡ k = c.number.ensures.value ∙ c.rides-rides.ensures in
    let some = c.number.ensures.some in
    let before = before_of c.in_ok-view.view in
    on_ok_weaker {P = (t : ℕ) → AddsStep until (arrival_in rounds r t) (moment_in before r t) (steps_at old t) (steps_at new t)}
    c.add_steps.result
    (λ added t known.
    let one : 1 ≤ k = omega (arith, some, same) in
    let now : arrival_in rounds k t ≡ arrival_in kept k t =
    one_least (ArrivesWithin c.args.table.now (source_of c.args.scratch.now) c.args.event k t) (arrival_in rounds k t) (arrival_in kept k t)
    (c.in_ok-view.ensures.right.least k t one (le_refl k) known) (c.run_kept.follows.holds-at-none.right.least k t one (le_refl k) known) in
    subst (λ (o : Option ℕ). AddsStep until o (arrival_in (kept_of c.args.scratch.now) k t) (steps_at old t) (steps_at new t)) now
    (subst (λ (o : Option ℕ). AddsStep until (arrival_in rounds k t) o (steps_at old t) (steps_at new t)) (c.in_ok-view.ensures.before k t)
    (subst (λ (n : ℕ). AddsStep until (arrival_in rounds n t) (moment_in before n t) (steps_at old t) (steps_at new t)) same (added t))))
    c.add_steps.ensures.added
