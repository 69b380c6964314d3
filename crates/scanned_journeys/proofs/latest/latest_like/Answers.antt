use Rattle.std.proofs.Common.{◌≡◌, ℕ, get_or, refl, arith, subst}
use Rattle.std.proofs.lemmas.List.Elements.{Contains-get_or}
use Rattle.pattern_query.specs.Answer.{PointData, numbers, IsJourney}
use Rattle.scanned_journeys.proofs.LatestFacts.{alike, event_early, last_passed, last_here, more_passed, one_passed, the_some_of, the_none_of}
use Rattle.timetable.specs.Journeys.{Reaches, Unbeaten}
use Rattle.rounds.specs.Scratch.{rides_of}
use Rattle.scanned_journeys.proofs.latest.latest_like.Goals as goal

pub loop-event-preserved-then-event-departure : goal.loop-event-preserved-then-event-departure
loop-event-preserved-then-event-departure c = record {
  same = c.loop-event.invariant.same;
  like = λ d is best.
      let p = c.args.point.now in
      let q = c.loop-event.last in
      let some = c.if-rides-eq0.false in
      let count = c.rides.ensures in
      let le = c.if-event-departure.true in
      let leaves = c.departure.ensures in
      one_passed c.args.network.now (rides_of c.args.scratch.now) c.args.from c.args.to d p is best c.args.events.now c.requires.events c.loop-event.event-index q (c.loop-event.invariant.like d is best)
      (omega (arith, some, count)) (omega (arith, le, leaves));
}

pub like_at-requires-clause-early : goal.like_at-requires-clause-early
like_at-requires-clause-early c =
    let event = get_or c.args.events.now c.loop-event.event-index 0 in
    event_early c.args.network.now c.args.from event c.requires.valid (c.requires.events.each event (Contains-get_or c.args.events.now c.loop-event.event-index 0 c.loop-event-test.true))

pub returns-in_default-clause-last : goal.returns-in_default-clause-last
returns-in_default-clause-last c = λ d is best.
    let T = c.args.network.now in
    let p = c.args.point.now in
    let q = c.loop-event.last in
    let i = c.loop-event.event-index in
    let event = get_or c.args.events.now i 0 in
    let some = c.if-rides-eq0.false in
    let count = c.rides.ensures in
    let lt = c.if-event-departure.false in
    let leaves = c.departure.ensures in
    last_here T (rides_of c.args.scratch.now) c.args.from c.args.to d p is best c.args.events.now c.requires.events i q (c.loop-event.invariant.like d is best) (omega (arith, some, count))
    c.loop-event-test.true event refl (omega (arith, lt, leaves))
    (subst (λ (k : ℕ). ¬ Unbeaten (Reaches T 0 k c.args.from c.args.to event) (numbers q)) c.loop-event.invariant.same.rides
    (the_none_of c.in_ok-later.field-0 c.in_default.is c.in_ok-later.ensures.none))

pub loop-event-preserved : goal.loop-event-preserved
loop-event-preserved c = record {
  same = alike c.args.scratch.now c.loop-event.scratch c.like_at.new.scratch c.loop-event.invariant.same c.like_at.ensures.same;
  like = λ d is best.
      let T = c.args.network.now in
      let p = c.args.point.now in
      let q = c.loop-event.last in
      let i = c.loop-event.event-index in
      let event = get_or c.args.events.now i 0 in
      let some = c.if-rides-eq0.false in
      let count = c.rides.ensures in
      let lt = c.if-event-departure.false in
      let leaves = c.departure.ensures in
      let found = the_some_of (λ (o : PointData). IsJourney T c.args.from c.args.to event o × (numbers o ≡ numbers q)) c.in_ok-later.field-0 c.in-Some.later c.in-Some.is c.in_ok-later.ensures.found in
      more_passed T (rides_of c.args.scratch.now) c.args.from c.args.to d p is best c.args.events.now c.requires.events i q (c.loop-event.invariant.like d is best) (omega (arith, some, count))
      c.loop-event-test.true event refl (omega (arith, lt, leaves)) c.in-Some.later found.0 found.1;
}

pub returns-clause-last : goal.returns-clause-last
returns-clause-last c = λ d is best.
    let p = c.args.point.now in
    let q = c.loop-event.last in
    let some = c.if-rides-eq0.false in
    let count = c.rides.ensures in
    last_passed c.args.network.now (rides_of c.args.scratch.now) c.args.from c.args.to d p is best c.args.events.now c.requires.events c.loop-event.event-index q (c.loop-event.invariant.like d is best)
    (omega (arith, some, count)) c.loop-event-test.false
