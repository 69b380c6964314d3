use Rattle.std.proofs.Common.{ℕ, get_or, arith, subst, le_refl}
use Rattle.timetable.specs.Table.{Table}
use Rattle.rounds.specs.Events.{IsEvent}
use Rattle.rounds.specs.Answers.{AreRounds}
use Rattle.rounds.specs.Scratch.{rides_of, source_of, kept_of}
use Rattle.connections.proofs.ConnectionFacts.{shifted, none_later, least_of}
use Rattle.connections.proofs.EventFacts.{event_early, moment_is, moments_are, between_moments, after_moments, rising_le}
use Rattle.connections.proofs.scanning.begin.Goals as goal

pub run_kept-requires-clause-early : goal.run_kept-requires-clause-early
run_kept-requires-clause-early c =
    event_early c.args.network.now c.args.from (get_or c.args.events.now c.args.end 0) c.timetable.ensures.valid
    (moment_is (IsEvent c.args.network.now c.args.from) c.args.events.now c.args.end
    (moments_are c.args.network.now c.args.from c.args.events.now c.requires.events) c.if-end-events.true)

pub returns-in_ok-run_kept-clause-later : goal.returns-in_ok-run_kept-clause-later
returns-in_ok-run_kept-clause-later c = λ d lies.
    let T = c.args.network.now in
    let s = c.args.from in
    let k = rides_of c.args.scratch.now in
    let moments = c.args.events.now in
    let next = get_or moments c.args.end 0 in
    let kept = kept_of c.run_kept.follows.lender-at-none in
    let in' = c.if-end-events.true in
    let are = c.run_kept.follows.holds-at-none.right in
    let here : AreRounds T s next k kept =
    subst (λ (t : Table). AreRounds t s next k kept) c.timetable.ensures.value
    (subst (λ (x : ℕ). AreRounds c.timetable.result.now x next k kept) c.restart.ensures.source
    (subst (λ (x : ℕ). AreRounds c.timetable.result.now (source_of c.restart.new.self) next x kept) c.restart.ensures.same.rides are)) in
    shifted T k s d next kept (lies.1 c.args.end (le_refl c.args.end) in') (between_moments (IsEvent T s) moments c.args.end d (moments_are T s moments c.requires.events) lies
    (λ i le lt. rising_le moments c.requires.events.rising c.args.end i le lt)) (least_of T k s next kept here)

pub returns-else-end-events-clause-later : goal.returns-else-end-events-clause-later
returns-else-end-events-clause-later c = λ d lies.
    none_later c.args.network.now (rides_of c.args.scratch.now) c.args.from d (kept_of c.restart.new.self) c.restart.ensures.none
    (after_moments (IsEvent c.args.network.now c.args.from) c.args.events.now c.args.end d
    (moments_are c.args.network.now c.args.from c.args.events.now c.requires.events) lies (let f = c.if-end-events.false in omega (arith, f)))
