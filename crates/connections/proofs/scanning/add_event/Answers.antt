use Rattle.std.proofs.Common.{ℕ, ◌<◌, ◌≤◌, List, length, map, get_or, true≢false, arith, sym, ◌∙◌, subst}
use Rattle.std.proofs.lemmas.Result.{on_ok_weaker}
use Rattle.std.proofs.lemmas.List.Elements.{Contains-get_or}
use Rattle.timetable.specs.Table.{Table, stops_of}
use Rattle.timetable.specs.Front.{AreFront}
use Rattle.timetable.specs.Journeys.{Reaches}
use Rattle.rounds.specs.Answers.{AreRounds}
use Rattle.rounds.specs.Scratch.{GoesOn, IsMadeFor, MayGoOn, rides_of, rounds_of, source_of, before_of, kept_of}
use Rattle.pattern_query.specs.Answer.{PointData, numbers, IsJourney}
use Rattle.connections.specs.Found.{AddsSome, IsLowered, IsLoweredWithin}
use Rattle.connections.proofs.EventFacts.{event_early}
use Rattle.connections.proofs.FoundFacts.{more_hold, numbers_in, found_more, found_no_more, lowered_connects, connects_lowered, none_lowered}
use Rattle.connections.proofs.scanning.add_event.Goals as goal

-- the front has no more rides than rounds
few_rides : (table : Table) (k s t e : ℕ) (points : List PointData) → AreFront table k s t e (map numbers points) → (i : ℕ) (d : PointData) → i < length points
    → (get_or points i d).rides ≤ k
few_rides table k s t e points front i d lt = (front.each (numbers (get_or points i d)) (numbers_in points (get_or points i d) (Contains-get_or points i d lt))).0.4

pub add_lowered-requires : goal.add_lowered-requires
add_lowered-requires c =
    let count = c.in_ok-view.ensures.right.count in
    let same = c.rides-rides.ensures in
    subst (λ (points : List PointData). (i : ℕ) (d : PointData) → i < length points → (get_or points i d).rides ≤ length (rounds_of c.in_ok-view.view)) (sym c.points.ensures)
    (λ i d lt.
    let few = few_rides c.args.network.now c.rides-rides.result c.args.from c.args.to c.args.event c.in_ok-answer.answer c.in_ok-answer.ensures.best i d lt in
    omega (arith, few, count, same))

pub returns-clause-journeys : goal.returns-clause-journeys
returns-clause-journeys c =
    let low = IsLowered (rounds_of c.in_ok-view.view) (before_of c.in_ok-view.view) c.args.to in
    on_ok_weaker {P = AddsSome low c.args.event c.points.result.now c.args.found.now.items c.add_lowered.new.found.items} c.add_lowered.result
    (λ adds were. more_hold (IsJourney c.args.network.now c.args.from c.args.to) c.args.event low c.in_ok-answer.answer c.args.found.now.items
    c.add_lowered.new.found.items c.in_ok-answer.ensures.journeys
    (subst (λ (points : List PointData). AddsSome low c.args.event points c.args.found.now.items c.add_lowered.new.found.items) c.points.ensures adds) were)
    c.add_lowered.ensures

pub returns-clause-found : goal.returns-clause-found
returns-clause-found c =
    let T = c.args.network.now in
    let s = c.args.from in
    let t = c.args.to in
    let k = rides_of c.args.scratch.now in
    let e = c.args.event in
    let rounds = rounds_of c.in_ok-view.view in
    let before = before_of c.in_ok-view.view in
    let kept = kept_of c.args.scratch.now in
    let low = IsLowered rounds before t in
    let answer = c.in_ok-answer.answer in
    let new = c.add_lowered.new.found.items in
    let are : AreRounds T s e k rounds =
    subst (λ (t : Table). AreRounds t s e k rounds) c.timetable.ensures.value
    (subst (λ (x : ℕ). AreRounds c.timetable.result.now x e k rounds) c.requires.source c.in_ok-view.ensures.right) in
    let front : AreFront T k s t e (map numbers answer) =
    subst (λ (x : ℕ). AreFront T x s t e (map numbers answer)) c.rides-rides.ensures c.in_ok-answer.ensures.best in
    on_ok_weaker {P = AddsSome low e c.points.result.now c.args.found.now.items new} c.add_lowered.result
    (λ adds last within found. found_more (Reaches T 0 k s t) low e last answer c.args.found.now.items new front
    (lowered_connects T k s t e rounds kept before c.requires.to are c.requires.later c.in_ok-view.ensures.before answer front)
    (connects_lowered T k s t e rounds kept before c.requires.to are c.requires.later c.in_ok-view.ensures.before answer)
    (subst (λ (points : List PointData). AddsSome low e points c.args.found.now.items new) c.points.ensures adds) within found)
    c.add_lowered.ensures

pub journeys_of-requires-clause-early : goal.journeys_of-requires-clause-early
journeys_of-requires-clause-early c = event_early c.args.network.now c.args.from c.args.event c.timetable.ensures.valid c.requires.event

pub returns-then-not-is_lowered-clause-found : goal.returns-then-not-is_lowered-clause-found
returns-then-not-is_lowered-clause-found c = λ last within found.
    let T = c.args.network.now in
    let s = c.args.from in
    let k = rides_of c.args.scratch.now in
    let e = c.args.event in
    let rounds = rounds_of c.in_ok-view.view in
    let before = before_of c.in_ok-view.view in
    let are : AreRounds T s e k rounds =
    subst (λ (t : Table). AreRounds t s e k rounds) c.timetable.ensures.value
    (subst (λ (x : ℕ). AreRounds c.timetable.result.now x e k rounds) c.requires.source c.in_ok-view.ensures.right) in
    found_no_more (Reaches T 0 k s c.args.to) e last c.args.found.now.items
    (none_lowered T k s c.args.to e rounds (kept_of c.args.scratch.now) before c.requires.to are c.requires.later c.in_ok-view.ensures.before
    (λ low. true≢false (sym (c.is_lowered.ensures.1 (subst (λ (x : ℕ). IsLoweredWithin rounds before c.args.to x) (sym c.rides-rides.ensures) low)) ∙ c.if-not-is_lowered.true)))
    found

pub run_kept-requires-clause-table : goal.run_kept-requires-clause-table
run_kept-requires-clause-table c = subst (λ (t : Table). IsMadeFor c.args.scratch.now t) (sym c.timetable.ensures.value) c.requires.table

pub run_kept-requires-clause-source : goal.run_kept-requires-clause-source
run_kept-requires-clause-source c =
    subst (λ (t : Table). source_of c.args.scratch.now < stops_of t) (sym c.timetable.ensures.value)
    (subst (λ (x : ℕ). x < stops_of c.args.network.now) (sym c.requires.source) c.requires.from)

pub run_kept-requires-clause-early : goal.run_kept-requires-clause-early
run_kept-requires-clause-early c = event_early c.args.network.now c.args.from c.args.event c.timetable.ensures.valid c.requires.event

pub run_kept-requires-clause-kept : goal.run_kept-requires-clause-kept
run_kept-requires-clause-kept c =
    subst (λ (t : Table). MayGoOn t c.args.event c.args.scratch.now) (sym c.timetable.ensures.value) c.requires.kept

pub is_lowered-requires : goal.is_lowered-requires
is_lowered-requires c = c.in_ok-view.ensures.right.count ∙ sym c.rides-rides.ensures

pub journeys_of-requires-clause-rounds : goal.journeys_of-requires-clause-rounds
journeys_of-requires-clause-rounds c =
    let rounds = rounds_of c.in_ok-view.view in
    subst (λ (t : Table). AreRounds t c.args.from c.args.event c.rides-rides.result rounds) c.timetable.ensures.value
    (subst (λ (x : ℕ). AreRounds c.timetable.result.now x c.args.event c.rides-rides.result rounds) c.requires.source
    (subst (λ (k : ℕ). AreRounds c.timetable.result.now (source_of c.args.scratch.now) c.args.event k rounds) (sym c.rides-rides.ensures)
    c.in_ok-view.ensures.right))

pub returns-clause-on : goal.returns-clause-on
returns-clause-on c =
    subst (λ (t : Table). GoesOn t c.args.event c.args.scratch.now c.run_kept.follows.lender-at-none) c.timetable.ensures.value
    c.run_kept.follows.holds-at-none

pub returns-then-not-is_lowered-clause-on : goal.returns-then-not-is_lowered-clause-on
returns-then-not-is_lowered-clause-on c =
    subst (λ (t : Table). GoesOn t c.args.event c.args.scratch.now c.run_kept.follows.lender-at-none) c.timetable.ensures.value
    c.run_kept.follows.holds-at-none

pub returns-in_err-view-clause-on : goal.returns-in_err-view-clause-on
returns-in_err-view-clause-on c =
    subst (λ (t : Table). GoesOn t c.args.event c.args.scratch.now c.run_kept.follows.lender-at-none) c.timetable.ensures.value
    c.run_kept.follows.holds-at-none

pub returns-in_err-answer-clause-on : goal.returns-in_err-answer-clause-on
returns-in_err-answer-clause-on c =
    subst (λ (t : Table). GoesOn t c.args.event c.args.scratch.now c.run_kept.follows.lender-at-none) c.timetable.ensures.value
    c.run_kept.follows.holds-at-none
