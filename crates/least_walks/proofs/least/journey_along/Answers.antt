use Rattle.std.proofs.Common.{◌≡◌, ℕ, ◌≤◌, ◌<◌, ◌↔◌, List, get_or, length, map, sym, ◌∙◌, ap, subst, arith}
use Rattle.std.specs.List.{Contains}
use Rattle.timetable.specs.Front.{AreBest}
use Rattle.pattern_tree.specs.Forest.{Pair}
use Rattle.pattern_query.specs.Answer.{PointData, numbers, IsPoint, TreeReaches}
use Rattle.pattern_query.specs.Leaving.{on_foot}
use Rattle.least_walks.proofs.SearchFacts.{along_feet, along_there}
use Rattle.least_walks.proofs.least.journey_along.Goals as goal

pub returns-then-rides-clause-feet : goal.returns-then-rides-clause-feet
returns-then-rides-clause-feet c =
    let T = c.args.network.now in
    let p = c.args.point.now in
    let tree = c.in_ok-patterns.patterns in
    let path = c.args.path.now in
    let answer = c.ask_any-answer.result in
    let i = c.loop-journey.journey-index in
    let q = c.journey-item.result in
    let source : tree.source ≡ p.from = c.in_ok-patterns.ensures.source ∙ c.from.ensures in
    let pairs = subst (λ (t : ℕ). (x : Pair) → Contains tree.pairs x ↔ (x ≡ (path, t))) c.to.ensures c.in_ok-patterns.ensures.pairs in
    let same : q ≡ get_or answer i q = c.journey-item.is ∙ ap (λ (ps : List PointData). get_or ps i q) c.points-journey-items.ensures in
    let long = ap (length {A = PointData}) c.points-journey-items.ensures in
    let within = c.loop-journey-test.true in
    let here = c.ask_any-answer.ensures.points i q (let z : i < length answer = omega (arith, long, within) in z) in
    let is : IsPoint T tree p.to p.departure q = subst (λ (x : PointData). IsPoint T tree p.to p.departure x) (sym same)
    (subst (λ (d : ℕ). IsPoint T tree p.to d (get_or answer i q)) c.departure.ensures
    (subst (λ (t : ℕ). IsPoint T tree t c.departure.result (get_or answer i q)) c.to-2.ensures here)) in
    let rides = c.if-rides.true in
    let a = c.rides.ensures in
    let b = c.rides-then-arrival.ensures in
    let some = c.requires.some in
    ap (on_foot T) c.copy.ensures ∙ along_feet T tree p path source pairs q is (let z : 1 ≤ q.rides = omega (arith, rides, a, b, some) in z)

pub unreachable-requires : goal.unreachable-requires
unreachable-requires c =
    let T = c.args.network.now in
    let p = c.args.point.now in
    let tree = c.in_ok-patterns.patterns in
    let path = c.args.path.now in
    let answer = c.ask_any-answer.result in
    let items = c.points-journey-items.result.now in
    let source : tree.source ≡ p.from = c.in_ok-patterns.ensures.source ∙ c.from.ensures in
    let pairs = subst (λ (t : ℕ). (x : Pair) → Contains tree.pairs x ↔ (x ≡ (path, t))) c.to.ensures c.in_ok-patterns.ensures.pairs in
    let front = subst (λ (d : ℕ). AreBest (TreeReaches T tree p.to d) (map numbers answer)) c.departure.ensures
    (subst (λ (t : ℕ). AreBest (TreeReaches T tree t c.departure.result) (map numbers answer)) c.to-2.ensures c.ask_any-answer.ensures.best) in
    let there = along_there T tree p path source pairs c.requires.best.0 c.requires.like c.requires.best.1 answer front in
    let q = there.0 in
    let k = there.1.0 in
    let within = there.1.1 in
    let long = ap (length {A = PointData}) c.points-journey-items.ensures in
    let past = c.loop-journey-test.false in
    let at : get_or items k q ≡ q = ap (λ (ps : List PointData). get_or ps k q) c.points-journey-items.ensures ∙ there.1.2 in
    c.loop-journey.invariant k q (let z : k < c.loop-journey.journey-index = omega (arith, within, long, past) in z) (ap numbers at ∙ there.2)
