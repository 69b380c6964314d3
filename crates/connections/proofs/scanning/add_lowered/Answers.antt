use Rattle.std.proofs.Common.{◌≡◌, ℕ, ◌+◌, ◌≤◌, List, [], ◌∷◌, ◌++◌, get_or, Vec, Global, true≢false, arith, sym, ◌∙◌, ap, subst}
use Rattle.timetable.specs.Front.{IsSooner}
use Rattle.rounds.specs.Mark.{arrival_in, moment_in}
use Rattle.rounds.specs.Scratch.{rounds_of, before_of}
use Rattle.pattern_query.specs.Answer.{PointData}
use Rattle.connections.specs.declared.connection.Connection.{Connection}
use Rattle.connections.specs.Found.{IsLowered, leaving}
use Rattle.connections.proofs.AddedFacts.{AddsSoFar, none_added, all_added, passed_over, one_more}
use Rattle.connections.proofs.scanning.add_lowered.Goals as goal
use Rattle.connections.proofs.scanning.add_lowered.Goals.{then-rides-gt0+then-changed+in_ok-push, else-rides-gt0, else-rides-gt0-via-then-rides-gt0+else-changed, else-rides-gt0-via-else-rides-gt0}

pub loop-journey-init : goal.loop-journey-init
loop-journey-init c = none_added (IsLowered (rounds_of c.args.view.now) (before_of c.args.view.now) c.args.to) c.args.event c.args.points.now c.args.found.now.items

pub loop-journey-preserved : goal.loop-journey-preserved
loop-journey-preserved c =
    let rounds = rounds_of c.args.view.now in
    let before = before_of c.args.view.now in
    let t = c.args.to in
    let event = c.args.event in
    let points = c.args.points.now in
    let n = c.loop-journey.journey-index in
    let p = c.journey-item.result in
    let is : get_or points n p ≡ p = sym c.journey-item.is in
    let in' = c.loop-journey-test.true in
    let old = c.args.found.now.items in
    let new = c.loop-journey.found.items in
    let count = c.rides.ensures in
    elim c.if-rides-gt0.branch [
      | then-rides-gt0+then-changed+in_ok-push w ↦
          let some = w.if-rides-gt0.true in
          let sooner = subst (λ (r : ℕ). IsSooner (arrival_in rounds r t) (moment_in before r t)) w.rides-then-rides-gt0.ensures (w.changed.ensures.0 w.if-changed.true) in
          let items : c.if-rides-gt0.found.items ≡ new ++ leaving event p ∷ [] =
          subst (λ (q : PointData). c.if-rides-gt0.found.items ≡ new ++ leaving event q ∷ []) w.copy.ensures
          (ap (λ (v : Vec Connection Global). v.items) w.found-is ∙ w.in_ok-push.ensures.items) in
          subst (λ (l : List Connection). AddsSoFar (IsLowered rounds before t) event points (n + 1) old l) (sym items)
          (one_more (IsLowered rounds before t) event points old n new p in' is ((let z : 1 ≤ p.rides = omega (arith, some, count) in z), sooner) c.loop-journey.invariant)
      | else-rides-gt0 w ↦
          let items : c.if-rides-gt0.found.items ≡ new = ap (λ (v : Vec Connection Global). v.items) w.found-is in
          subst (λ (l : List Connection). AddsSoFar (IsLowered rounds before t) event points (n + 1) old l) (sym items)
          (passed_over (IsLowered rounds before t) event points old n new p in' is (λ low. elim w.else-rides-gt0.branch [
            | else-rides-gt0-via-then-rides-gt0+else-changed v ↦
                let sooner = subst (λ (r : ℕ). IsSooner (arrival_in rounds r t) (moment_in before r t)) (sym v.rides-then-rides-gt0.ensures) low.1 in
                true≢false (sym (v.changed.ensures.1 sooner) ∙ v.if-changed.false)
            | else-rides-gt0-via-else-rides-gt0 v ↦ (let none = v.if-rides-gt0.false in let some = low.0 in let z : ⊥ = omega (arith, none, some, count) in z)
          ]) c.loop-journey.invariant)
    ]

pub returns : goal.returns
returns c =
    let past = c.loop-journey-test.false in
    all_added (IsLowered (rounds_of c.args.view.now) (before_of c.args.view.now) c.args.to) c.args.event c.args.points.now c.args.found.now.items
    c.loop-journey.journey-index c.loop-journey.found.items past c.loop-journey.invariant
