use Rattle.std.proofs.Common.{◌≡◌, ◌<◌, List, length, get_or, take, arith, sym, ◌∙◌, ap, subst}
use Rattle.std.proofs.lemmas.List.{length-map, get_or-map}
use Rattle.pattern_tree.specs.Forest.{Step}
use Rattle.pattern_query.specs.Answer.{PointData}
use Rattle.pattern_query.specs.BestSoFar.{AreThere, IsAlong}
use Rattle.packed_patterns.specs.Patterns.{path_of, paths_of}
use Rattle.pattern_query.specs.Way.{Exactly, EmptyOrIn}
use Rattle.pattern_query.specs.Leaving.{LeaveLast}
use Rattle.pattern_query.proofs.LeaveSteps.{counted_same, journeys_still}
use Rattle.pattern_query.proofs.AlongSteps.{leave_start, leave_more, there_along}
use Rattle.pattern_query.proofs.search.Search.leave_last.Goals as goal

pub loop-pattern-init : goal.loop-pattern-init
loop-pattern-init c = leave_start c.args.self.now.network.now c.args.self.now.source c.args.self.now.to c.args.self.now.depart c.args.points.now c.requires.each

pub leave_along-requires-clause-slots : goal.leave_along-requires-clause-slots
leave_along-requires-clause-slots c =
    counted_same c.args.points.now c.loop-pattern.points c.loop-pattern.invariant.same c.requires.slots c.loop-pattern.auto.points

pub leave_along-requires-clause-each : goal.leave_along-requires-clause-each
leave_along-requires-clause-each c =
    let T = c.args.self.now.network.now in
    let s = c.args.self.now.source in
    let t = c.args.self.now.to in
    let d = c.args.self.now.depart in
    let Of : PointData → Type 0 = IsAlong T s t d (EmptyOrIn (take c.loop-pattern.pattern-index (paths_of c.args.ending.now.beginnings.now c.args.ending.now.patterns.now))) in
    journeys_still T d Of c.args.points.now c.loop-pattern.points c.loop-pattern.invariant (λ p is. (s, t, is.is)) c.requires.each

pub leave_along-requires-clause-least : goal.leave_along-requires-clause-least
leave_along-requires-clause-least c =
    let T = c.args.self.now.network.now in
    let s = c.args.self.now.source in
    let t = c.args.self.now.to in
    let d = c.args.self.now.depart in
    let bs = c.args.ending.now.beginnings.now in
    let ps = c.args.ending.now.patterns.now in
    let i = c.loop-pattern.pattern-index in
    let p = c.pattern-item.result in
    let path = path_of bs p in
    let within : i < length (paths_of bs ps) = omega (arith, c.loop-pattern-test.true, length-map ps (path_of bs)) in
    let here : get_or (paths_of bs ps) i path ≡ path = get_or-map (path_of bs) ps i p path c.loop-pattern-test.true ∙ ap (path_of bs) (sym c.pattern-item.is) in
    let Of : PointData → Type 0 = IsAlong T s t d (EmptyOrIn (take i (paths_of bs ps))) in
    subst (λ (p : List Step). AreThere T s t d (Exactly p) c.loop-pattern.points) (sym (c.as_slice.ensures.value ∙ c.rides_of-path.ensures))
    (there_along T s t d (paths_of bs ps) i path within here c.args.points.now c.loop-pattern.points Of c.loop-pattern.invariant c.requires.least)

pub loop-pattern-preserved : goal.loop-pattern-preserved
loop-pattern-preserved c =
    let T = c.args.self.now.network.now in
    let s = c.args.self.now.source in
    let t = c.args.self.now.to in
    let d = c.args.self.now.depart in
    let bs = c.args.ending.now.beginnings.now in
    let ps = c.args.ending.now.patterns.now in
    let i = c.loop-pattern.pattern-index in
    let p = c.pattern-item.result in
    let path = path_of bs p in
    let within : i < length (paths_of bs ps) = omega (arith, c.loop-pattern-test.true, length-map ps (path_of bs)) in
    let here : get_or (paths_of bs ps) i path ≡ path = get_or-map (path_of bs) ps i p path c.loop-pattern-test.true ∙ ap (path_of bs) (sym c.pattern-item.is) in
    leave_more T s t d (paths_of bs ps) i path within here c.args.points.now c.loop-pattern.points c.leave_along.new.points c.loop-pattern.invariant
    (subst (λ (p : List Step). LeaveLast T (IsAlong T s t d (Exactly p)) c.loop-pattern.points c.leave_along.new.points) (c.as_slice.ensures.value ∙ c.rides_of-path.ensures) c.leave_along.ensures)
