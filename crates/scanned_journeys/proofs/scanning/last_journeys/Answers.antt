use Rattle.std.proofs.Common.{ℕ, refl, ◌≡◌, ◌<◌, List, length, map, get_or, Contains, arith, ap, subst, sym, ◌∙◌}
use Rattle.std.proofs.lemmas.List.{get_or_default, length-map}
use Rattle.std.proofs.lemmas.List.Elements.{All-set, Contains-get_or}
use Rattle.timetable.specs.declared.parts.Numbers.{Numbers}
use Rattle.timetable.specs.Front.{AreFront}
use Rattle.timetable.specs.Journeys.{Reaches, Unbeaten}
use Rattle.pattern_query.specs.Answer.{PointData, numbers, IsJourney}
use Rattle.pattern_query.specs.Leaving.{IsLatest, LeavesLast}
use Rattle.pattern_query.proofs.Best.{numbers_in}
use Rattle.scanned_journeys.proofs.LatestFacts.{numbers_set, first_set}
use Rattle.timetable.specs.Table.{Table, stops_of}
use Rattle.rounds.specs.Scratch.{IsMadeFor, rides_of}
use Rattle.rounds.specs.Events.{AreEvents}
use Rattle.scanned_journeys.proofs.LeastFacts.{last_is, last_best, last_early, least_like, least_leaves}
use Rattle.scanned_journeys.specs.Latest.{IsLastLike}
use Rattle.scanned_journeys.proofs.scanning.last_journeys.Goals as goal

pub loop-index-init : goal.loop-index-init
loop-index-init c = record {
  made = c.best_at.ensures.same.made c.args.network.now c.requires.made;
  rides = c.best_at.ensures.same.rides;
  journeys = c.in_ok-answer.ensures.journeys;
  alike = refl;
  latest = λ i p lt. absurd (omega (arith, lt));
  last = λ i p lt. absurd (omega (arith, lt));
}

pub least_walk-requires-clause-from : goal.least_walk-requires-clause-from
least_walk-requires-clause-from c =
    let T = c.args.network.now in
    let start = c.in_ok-answer.answer in
    let l = c.loop-index.answer in
    let i = c.loop-index.index in
    let p = c.index-points-index.result in
    let x = c.in_ok-last.last in
    let inv = c.loop-index.invariant in
    let test = c.loop-index-test.true in
    let end = ap (λ (ps : List PointData). length ps) c.points-index-end.ensures in
    let long = ap (λ (ns : List Numbers). length ns) inv.alike in
    let within : i < length l = omega (arith, test, end, long, length-map {B = Numbers} l numbers, length-map {B = Numbers} start numbers) in
    let here : get_or l i p ≡ p = sym (c.index-points-index.is ∙ ap (λ (ps : List PointData). get_or ps i p) c.points.ensures) in
    let is : IsJourney T c.args.from c.args.to c.args.depart p = subst (IsJourney T c.args.from c.args.to c.args.depart) here (inv.journeys i p within) in
    let in' : Contains (map numbers start) (numbers p) =
    subst (λ (ns : List Numbers). Contains ns (numbers p)) inv.alike
    (numbers_in l p (subst (λ (q : PointData). Contains l q) here (Contains-get_or l i p within))) in
    let front = c.in_ok-answer.ensures.best.each (numbers p) in' in
    let k = rides_of c.loop-index.scratch in
    let best = subst (λ (k : ℕ). Unbeaten (Reaches T 0 k c.args.from c.args.to c.args.depart) (numbers p)) (sym inv.rides) front in
    let last = subst (λ (k : ℕ). IsLastLike T k c.args.from c.args.to c.args.depart p x) inv.rides (c.in_ok-last.ensures.last c.args.depart is best) in
    subst (λ (s : ℕ). s < stops_of T) (sym last.is.starts) c.requires.from

pub least_walk-requires-clause-early : goal.least_walk-requires-clause-early
least_walk-requires-clause-early c =
    let T = c.args.network.now in
    let start = c.in_ok-answer.answer in
    let l = c.loop-index.answer in
    let i = c.loop-index.index in
    let p = c.index-points-index.result in
    let x = c.in_ok-last.last in
    let inv = c.loop-index.invariant in
    let test = c.loop-index-test.true in
    let end = ap (λ (ps : List PointData). length ps) c.points-index-end.ensures in
    let long = ap (λ (ns : List Numbers). length ns) inv.alike in
    let within : i < length l = omega (arith, test, end, long, length-map {B = Numbers} l numbers, length-map {B = Numbers} start numbers) in
    let here : get_or l i p ≡ p = sym (c.index-points-index.is ∙ ap (λ (ps : List PointData). get_or ps i p) c.points.ensures) in
    let is : IsJourney T c.args.from c.args.to c.args.depart p = subst (IsJourney T c.args.from c.args.to c.args.depart) here (inv.journeys i p within) in
    let in' : Contains (map numbers start) (numbers p) =
    subst (λ (ns : List Numbers). Contains ns (numbers p)) inv.alike
    (numbers_in l p (subst (λ (q : PointData). Contains l q) here (Contains-get_or l i p within))) in
    let front = c.in_ok-answer.ensures.best.each (numbers p) in' in
    let k = rides_of c.loop-index.scratch in
    let best = subst (λ (k : ℕ). Unbeaten (Reaches T 0 k c.args.from c.args.to c.args.depart) (numbers p)) (sym inv.rides) front in
    let last = subst (λ (k : ℕ). IsLastLike T k c.args.from c.args.to c.args.depart p x) inv.rides (c.in_ok-last.ensures.last c.args.depart is best) in
    last_early T (rides_of c.args.scratch.now) c.args.from c.args.to c.args.depart p x front last c.timetable.ensures.valid c.requires.early

pub least_walk-requires-clause-is : goal.least_walk-requires-clause-is
least_walk-requires-clause-is c =
    let T = c.args.network.now in
    let start = c.in_ok-answer.answer in
    let l = c.loop-index.answer in
    let i = c.loop-index.index in
    let p = c.index-points-index.result in
    let x = c.in_ok-last.last in
    let inv = c.loop-index.invariant in
    let test = c.loop-index-test.true in
    let end = ap (λ (ps : List PointData). length ps) c.points-index-end.ensures in
    let long = ap (λ (ns : List Numbers). length ns) inv.alike in
    let within : i < length l = omega (arith, test, end, long, length-map {B = Numbers} l numbers, length-map {B = Numbers} start numbers) in
    let here : get_or l i p ≡ p = sym (c.index-points-index.is ∙ ap (λ (ps : List PointData). get_or ps i p) c.points.ensures) in
    let is : IsJourney T c.args.from c.args.to c.args.depart p = subst (IsJourney T c.args.from c.args.to c.args.depart) here (inv.journeys i p within) in
    let in' : Contains (map numbers start) (numbers p) =
    subst (λ (ns : List Numbers). Contains ns (numbers p)) inv.alike
    (numbers_in l p (subst (λ (q : PointData). Contains l q) here (Contains-get_or l i p within))) in
    let front = c.in_ok-answer.ensures.best.each (numbers p) in' in
    let k = rides_of c.loop-index.scratch in
    let best = subst (λ (k : ℕ). Unbeaten (Reaches T 0 k c.args.from c.args.to c.args.depart) (numbers p)) (sym inv.rides) front in
    let last = subst (λ (k : ℕ). IsLastLike T k c.args.from c.args.to c.args.depart p x) inv.rides (c.in_ok-last.ensures.last c.args.depart is best) in
    last_is T (rides_of c.args.scratch.now) c.args.from c.args.to c.args.depart p x front last

pub least_walk-requires-clause-best : goal.least_walk-requires-clause-best
least_walk-requires-clause-best c =
    let T = c.args.network.now in
    let start = c.in_ok-answer.answer in
    let l = c.loop-index.answer in
    let i = c.loop-index.index in
    let p = c.index-points-index.result in
    let x = c.in_ok-last.last in
    let inv = c.loop-index.invariant in
    let test = c.loop-index-test.true in
    let end = ap (λ (ps : List PointData). length ps) c.points-index-end.ensures in
    let long = ap (λ (ns : List Numbers). length ns) inv.alike in
    let within : i < length l = omega (arith, test, end, long, length-map {B = Numbers} l numbers, length-map {B = Numbers} start numbers) in
    let here : get_or l i p ≡ p = sym (c.index-points-index.is ∙ ap (λ (ps : List PointData). get_or ps i p) c.points.ensures) in
    let is : IsJourney T c.args.from c.args.to c.args.depart p = subst (IsJourney T c.args.from c.args.to c.args.depart) here (inv.journeys i p within) in
    let in' : Contains (map numbers start) (numbers p) =
    subst (λ (ns : List Numbers). Contains ns (numbers p)) inv.alike
    (numbers_in l p (subst (λ (q : PointData). Contains l q) here (Contains-get_or l i p within))) in
    let front = c.in_ok-answer.ensures.best.each (numbers p) in' in
    let k = rides_of c.loop-index.scratch in
    let best = subst (λ (k : ℕ). Unbeaten (Reaches T 0 k c.args.from c.args.to c.args.depart) (numbers p)) (sym inv.rides) front in
    let last = subst (λ (k : ℕ). IsLastLike T k c.args.from c.args.to c.args.depart p x) inv.rides (c.in_ok-last.ensures.last c.args.depart is best) in
    let rides = c.latest_like.ensures.same.rides ∙ inv.rides in
    subst (λ (k : ℕ). Unbeaten (Reaches T 0 k x.from x.to x.departure) (numbers x)) (sym rides) (last_best T (rides_of c.args.scratch.now) c.args.from c.args.to c.args.depart p x front last)

pub loop-index-preserved : goal.loop-index-preserved
loop-index-preserved c =
    let T = c.args.network.now in
    let start = c.in_ok-answer.answer in
    let l = c.loop-index.answer in
    let i = c.loop-index.index in
    let p = c.index-points-index.result in
    let x = c.in_ok-last.last in
    let inv = c.loop-index.invariant in
    let test = c.loop-index-test.true in
    let end = ap (λ (ps : List PointData). length ps) c.points-index-end.ensures in
    let long = ap (λ (ns : List Numbers). length ns) inv.alike in
    let within : i < length l = omega (arith, test, end, long, length-map {B = Numbers} l numbers, length-map {B = Numbers} start numbers) in
    let here : get_or l i p ≡ p = sym (c.index-points-index.is ∙ ap (λ (ps : List PointData). get_or ps i p) c.points.ensures) in
    let is : IsJourney T c.args.from c.args.to c.args.depart p = subst (IsJourney T c.args.from c.args.to c.args.depart) here (inv.journeys i p within) in
    let in' : Contains (map numbers start) (numbers p) =
    subst (λ (ns : List Numbers). Contains ns (numbers p)) inv.alike
    (numbers_in l p (subst (λ (q : PointData). Contains l q) here (Contains-get_or l i p within))) in
    let front = c.in_ok-answer.ensures.best.each (numbers p) in' in
    let k = rides_of c.loop-index.scratch in
    let best = subst (λ (k : ℕ). Unbeaten (Reaches T 0 k c.args.from c.args.to c.args.depart) (numbers p)) (sym inv.rides) front in
    let last = subst (λ (k : ℕ). IsLastLike T k c.args.from c.args.to c.args.depart p x) inv.rides (c.in_ok-last.ensures.last c.args.depart is best) in
    let q = c.in_ok-least.least in
    let least = c.in_ok-least.ensures.least in
    let like = least_like T (rides_of c.args.scratch.now) c.args.from c.args.to c.args.depart p x front last q least in
    let alike : numbers q ≡ numbers (get_or l i q) =
    like.alike ∙ ap numbers (sym here ∙ get_or_default l i p q within) in
    let first = c.latest_like.ensures.same in
    let second = c.least_walk.ensures.same in
    rw c.put.ensures record {
      made = second.made T (first.made T inv.made);
      rides = second.rides ∙ (first.rides ∙ inv.rides);
      journeys = All-set (IsJourney T c.args.from c.args.to c.args.depart) l i q like.is inv.journeys;
      alike = numbers_set l i q within alike ∙ inv.alike;
      latest = first_set (IsLatest (Reaches T 0 (rides_of c.args.scratch.now) c.args.from c.args.to)) l i q within (λ k d lt. inv.latest k d lt) like.latest;
      last = first_set (LeavesLast T (IsJourney T c.args.from c.args.to c.args.depart)) l i q within (λ k d lt. inv.last k d lt)
          (least_leaves T (rides_of c.args.scratch.now) c.args.from c.args.to c.args.depart p x front last q least);
    }

pub put-requires : goal.put-requires
put-requires c =
    let start = c.in_ok-answer.answer in
    let l = c.loop-index.answer in
    let test = c.loop-index-test.true in
    let end = ap (λ (ps : List PointData). length ps) c.points-index-end.ensures in
    let long = ap (λ (ns : List Numbers). length ns) c.loop-index.invariant.alike in
    omega (arith, test, end, long, length-map {B = Numbers} l numbers, length-map {B = Numbers} start numbers)

pub returns-clause-latest : goal.returns-clause-latest
returns-clause-latest c = λ k d lt.
    let start = c.in_ok-answer.answer in
    let l = c.loop-index.answer in
    let test = c.loop-index-test.false in
    let end = ap (λ (ps : List PointData). length ps) c.points-index-end.ensures in
    let long = ap (λ (ns : List Numbers). length ns) c.loop-index.invariant.alike in
    c.loop-index.invariant.latest k d (let z : k < c.loop-index.index = omega (arith, lt, test, end, long, length-map {B = Numbers} l numbers, length-map {B = Numbers} start numbers) in z)

pub returns-clause-last : goal.returns-clause-last
returns-clause-last c = λ k d lt.
    let start = c.in_ok-answer.answer in
    let l = c.loop-index.answer in
    let test = c.loop-index-test.false in
    let end = ap (λ (ps : List PointData). length ps) c.points-index-end.ensures in
    let long = ap (λ (ns : List Numbers). length ns) c.loop-index.invariant.alike in
    c.loop-index.invariant.last k d (let z : k < c.loop-index.index = omega (arith, lt, test, end, long, length-map {B = Numbers} l numbers, length-map {B = Numbers} start numbers) in z)

pub departures-requires-clause-table : goal.departures-requires-clause-table
departures-requires-clause-table c =
    subst (λ (t : Table). IsMadeFor c.best_at.new.scratch t) (sym c.timetable.ensures.value) (c.best_at.ensures.same.made c.args.network.now c.requires.made)

pub latest_like-requires-clause-events : goal.latest_like-requires-clause-events
latest_like-requires-clause-events c =
    subst (λ (xs : List ℕ). AreEvents c.args.network.now c.args.from xs) (sym c.deref.ensures.value)
    (subst (λ (t : Table). AreEvents t c.args.from c.in_ok-events.events.items) c.timetable.ensures.value c.in_ok-events.ensures)

pub least_walk-requires-clause-made : goal.least_walk-requires-clause-made
least_walk-requires-clause-made c = c.latest_like.ensures.same.made c.args.network.now c.loop-index.invariant.made

pub returns-clause-best : goal.returns-clause-best
returns-clause-best c =
    subst (λ (ns : List Numbers). AreFront c.args.network.now (rides_of c.args.scratch.now) c.args.from c.args.to c.args.depart ns)
    (sym c.loop-index.invariant.alike) c.in_ok-answer.ensures.best
