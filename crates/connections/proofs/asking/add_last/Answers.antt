use Rattle.std.proofs.Common.{◌≡◌, ◌+◌, ◌≤◌, List, [], ◌∷◌, ◌++◌, get_or, Vec, Global, true≢false, arith, sym, ◌∙◌, ap, subst}
use Rattle.pattern_query.specs.Answer.{PointData}
use Rattle.connections.specs.declared.connection.Connection.{Connection}
use Rattle.connections.specs.Found.{IsLastBefore, leaving}
use Rattle.connections.proofs.AddedFacts.{AddsSoFar, none_added, all_added, passed_over, one_more}
use Rattle.connections.proofs.asking.add_last.Goals as goal
use Rattle.connections.proofs.asking.add_last.Goals.{then-rides-gt0+then-not-is_there+in_ok-push, else-rides-gt0, else-rides-gt0-via-then-rides-gt0+else-not-is_there, else-rides-gt0-via-else-rides-gt0}

pub loop-journey-init : goal.loop-journey-init
loop-journey-init c = none_added (IsLastBefore c.args.next.now) c.args.event c.args.points.now c.args.found.now.items

pub loop-journey-preserved : goal.loop-journey-preserved
loop-journey-preserved c =
    let These = IsLastBefore c.args.next.now in
    let event = c.args.event in
    let points = c.args.points.now in
    let n = c.loop-journey.journey-index in
    let p = c.journey-item.result in
    let is : get_or points n p ≡ p = sym c.journey-item.is in
    let in' = c.loop-journey-test.true in
    let old = c.args.found.now.items in
    let new = c.loop-journey.found.items in
    let count = c.rides.ensures in
    elim c.if-rides-gt0.branch [
      | then-rides-gt0+then-not-is_there+in_ok-push w ↦
          let some = w.if-rides-gt0.true in
          let items : c.if-rides-gt0.found.items ≡ new ++ leaving event p ∷ [] =
          subst (λ (q : PointData). c.if-rides-gt0.found.items ≡ new ++ leaving event q ∷ []) w.copy.ensures
          (ap (λ (v : Vec Connection Global). v.items) w.found-is ∙ w.in_ok-push.ensures.items) in
          subst (λ (l : List Connection). AddsSoFar These event points (n + 1) old l) (sym items)
          (one_more These event points old n new p in' is
          ((let z : 1 ≤ p.rides = omega (arith, some, count) in z), λ there. true≢false (sym (w.is_there.ensures.1 there) ∙ w.if-not-is_there.true))
          c.loop-journey.invariant)
      | else-rides-gt0 w ↦
          let items : c.if-rides-gt0.found.items ≡ new = ap (λ (v : Vec Connection Global). v.items) w.found-is in
          subst (λ (l : List Connection). AddsSoFar These event points (n + 1) old l) (sym items)
          (passed_over These event points old n new p in' is (λ low. elim w.else-rides-gt0.branch [
            | else-rides-gt0-via-then-rides-gt0+else-not-is_there v ↦ low.1 (v.is_there.ensures.0 v.if-not-is_there.false)
            | else-rides-gt0-via-else-rides-gt0 v ↦ (let none = v.if-rides-gt0.false in let some = low.0 in let z : ⊥ = omega (arith, none, some, count) in z)
          ]) c.loop-journey.invariant)
    ]

pub returns : goal.returns
returns c =
    all_added (IsLastBefore c.args.next.now) c.args.event c.args.points.now c.args.found.now.items c.loop-journey.journey-index c.loop-journey.found.items
    c.loop-journey-test.false c.loop-journey.invariant
