use Rattle.std.proofs.Common.{◌≡◌, ◌<◌, ◌≤◌, ◌∙◌, ℕ, List, Result, Ok, Err, IfOk, ap, arith, refl, subst, subst₂, sym}
use Rattle.std.specs.Option.{IfNone, IfSome}
use Rattle.timetable.specs.declared.parts.Numbers.{Numbers}
use Rattle.timetable.specs.declared.parts.TheConstants.{LATEST_MOMENT}
use Rattle.timetable.specs.Journeys.{pattern}
use Rattle.timetable.specs.Table.{Table, stops_of}
use Rattle.rounds.specs.Answers.{AreRounds}
use Rattle.rounds.specs.Scratch.{IsMadeFor, rides_of, rounds_of}
use Rattle.pattern_tree.specs.Forest.{Step}
use Rattle.pattern_query.specs.Answer.{PointData, numbers, IsJourney}
use Rattle.pattern_query.specs.Leaving.{walked, on_foot}
use Rattle.least_walks.specs.Least.{IsLeastLike, IsPathLike, WalksAtLeast}
use Rattle.least_walks.proofs.least.least_walk.Goals as goal

-- a journey like the point walks at least these seconds
like_walks : (table : Table) (p o : PointData) (feet : ℕ) → WalksAtLeast table p feet → IsJourney table p.from p.to p.departure o
    → numbers o ≡ numbers p → feet ≤ on_foot table o
like_walks table p o feet at is same =
    let arrival : o.arrival ≡ p.arrival = ap (λ (n : Numbers). n.arrival) same in
    subst₂ (λ (s t : ℕ). feet ≤ walked table s (pattern table o.legs) t) (sym is.starts) (sym is.ends)
    (at o.legs o.arrival is.journey (is.counted ∙ ap (λ (n : Numbers). n.rides) same) (omega (arith, arrival)))

all_three : {X E : Type 0} {P Q R S : X → Type 0} (r : Result X E) → ((x : X) → P x → Q x → R x → S x) → IfOk r P → IfOk r Q → IfOk r R → IfOk r S
all_three (Ok x) f p q r = f x p q r
all_three (Err e) f p q r = tt

pub run-requires-clause-table : goal.run-requires-clause-table
run-requires-clause-table c = subst (λ (t : Table). IsMadeFor c.args.scratch.now t) (sym c.timetable.ensures.value) c.requires.made

pub run-requires-clause-source : goal.run-requires-clause-source
run-requires-clause-source c =
    subst₂ (λ (s : ℕ) (t : Table). s < stops_of t) (sym c.from.ensures) (sym c.timetable.ensures.value) c.requires.from

pub run-requires-clause-early : goal.run-requires-clause-early
run-requires-clause-early c = subst (λ (d : ℕ). d ≤ LATEST_MOMENT) (sym c.departure.ensures) c.requires.early

pub shorter_path-requires-clause-rounds : goal.shorter_path-requires-clause-rounds
shorter_path-requires-clause-rounds c =
    let p = c.args.point.now in
    let rounds = rounds_of c.in_ok-view.view in
    let right = c.in_ok-view.ensures.right in
    subst (λ (k : ℕ). AreRounds c.args.network.now p.from p.departure k rounds) (sym right.count)
    (subst (λ (t : Table). AreRounds t p.from p.departure (rides_of c.args.scratch.now) rounds) c.timetable.ensures.value
    (subst₂ (λ (s d : ℕ). AreRounds c.timetable.result.now s d (rides_of c.args.scratch.now) rounds) c.from.ensures c.departure.ensures right))

pub returns-in-Some-clause-same : goal.returns-in-Some-clause-same
returns-in-Some-clause-same c = c.run.follows.holds-at-none

pub returns-in-None-clause-same : goal.returns-in-None-clause-same
returns-in-None-clause-same c = c.run.follows.holds-at-none

pub returns-in_err-view-clause-same : goal.returns-in_err-view-clause-same
returns-in_err-view-clause-same c = c.run.follows.holds-at-none

pub returns-in_err-path-clause-same : goal.returns-in_err-path-clause-same
returns-in_err-path-clause-same c = c.run.follows.holds-at-none

pub returns-in-Some-clause-least : goal.returns-in-Some-clause-least
returns-in-Some-clause-least c =
    let T = c.args.network.now in
    let p = c.args.point.now in
    let Least = λ (path : List Step). WalksAtLeast T p (walked T p.from path p.to) in
    let least : Least c.in-Some.path.items = subst (λ o. IfSome o (λ path. Least path.items)) c.in-Some.is c.in_ok-path.ensures.least in
    all_three c.journey_along.result
    (λ q is alike feet. record {
      is = is;
      alike = alike;
      least = λ o like same. subst (λ (n : ℕ). n ≤ on_foot T o) (sym feet)
          (like_walks T p o (walked T p.from c.as_slice.result.now p.to) (subst Least (sym c.as_slice.ensures.value) least) like same);
    })
    c.journey_along.ensures.is c.journey_along.ensures.alike c.journey_along.ensures.feet

pub returns-in-None-clause-least : goal.returns-in-None-clause-least
returns-in-None-clause-least c =
    let T = c.args.network.now in
    let p = c.args.point.now in
    let none : WalksAtLeast T p c.walk_of-bound.result =
    subst (λ o. IfNone o (WalksAtLeast T p c.walk_of-bound.result)) c.in-None.is c.in_ok-path.ensures.none in
    subst (IsLeastLike T p) (sym c.copy-in-None.ensures) record {
      is = c.requires.is;
      alike = refl;
      least = λ o like same. subst (λ (n : ℕ). n ≤ on_foot T o) c.walk_of-bound.ensures (like_walks T p o c.walk_of-bound.result none like same);
    }

pub journey_along-requires-clause-like : goal.journey_along-requires-clause-like
journey_along-requires-clause-like c =
    let Like = λ (path : List Step). IsPathLike c.args.network.now c.args.point.now path in
    subst Like (sym c.as_slice.ensures.value)
    (subst (λ o. IfSome o (λ path. Like path.items)) c.in-Some.is c.in_ok-path.ensures.like)
