use Rattle.std.proofs.Common.{◌≡◌, ℕ, ◌+◌, ◌-◌, ◌<◌, ◌≤◌, List, length, get_or, arith, sym, ◌∙◌, subst}
use Rattle.std.specs.List.{All, ReversedBelow}
use Rattle.std.proofs.lemmas.List.Sorted.{Contains-permutation, IsPermutation-sym}
use Rattle.std.proofs.lemmas.List.Elements.{All-contains}
use Rattle.timetable.specs.Journeys.{Reaches}
use Rattle.pattern_query.specs.Answer.{IsJourney}
use Rattle.std.proofs.lemmas.List.{get_or_default}
use Rattle.timetable.specs.Table.{Table}
use Rattle.rounds.specs.Events.{IsEvent, AreEvents}
use Rattle.rounds.specs.Answers.{AreRounds}
use Rattle.rounds.specs.Scratch.{MayGoOn, rides_of, kept_of}
use Rattle.connections.specs.declared.connection.Connection.{Connection}
use Rattle.connections.specs.Found.{AreFound, AreLeastAt, AreMoments, IsBy, LiesAt, SplitsAt, between}
use Rattle.connections.proofs.LeaveFacts.{scanned_then}
use Rattle.connections.proofs.ConnectionFacts.{shifted, least_of, reached_events}
use Rattle.connections.proofs.EventFacts.{lies_after, moment_is, moments_are, between_moments, rising_le, rising_lt}
use Rattle.connections.proofs.FoundFacts.{all_from, HasFound, has_none, found_after, has_from, found_all, turned}
use Rattle.connections.proofs.scanning.scan_connections.Goals as goal

-- the least arrivals at an event are those after the event before
least_before : (table : Table) (k s : ℕ) (moments : List ℕ) → AreMoments (IsEvent table s) moments → (kept : _) → (i j : ℕ) → j + 1 ≡ i → i < length moments
    → AreRounds table s (get_or moments i 0) k kept → AreLeastAt table k s (get_or moments j 0 + 1) kept
least_before table k s moments are kept i j next in' rounds =
    let less = rising_lt moments are.rising j i (omega (arith, next)) in' in
    shifted table k s (get_or moments j 0 + 1) (get_or moments i 0) kept (omega (arith, less))
    (between_moments (IsEvent table s) moments i (get_or moments j 0 + 1) are (lies_after (IsEvent table s) moments are j i next (omega (arith, next, in')))
    (λ n le lt. rising_le moments are.rising i n le lt))
    (least_of table k s (get_or moments i 0) kept rounds)

pub loop-index-init : goal.loop-index-init
loop-index-init c =
    let T = c.args.network.now in
    let s = c.args.from in
    let k = rides_of c.args.scratch.now in
    let moments = c.in_ok-events.events.items in
    let end = c.count_up_to-end.result in
    let scratch = c.begin.new.scratch in
    let are : AreMoments (IsEvent T s) moments = moments_are T s moments (subst (λ (t : Table). AreEvents t s moments) c.timetable.ensures.value c.in_ok-events.ensures) in
    let splits : SplitsAt moments c.args.window.last end = subst (λ (xs : List ℕ). SplitsAt xs c.args.window.last end) c.deref.ensures.value c.count_up_to-end.ensures.split in
    let within : end ≤ length moments = subst (λ (xs : List ℕ). end ≤ length xs) c.deref.ensures.value c.count_up_to-end.ensures.within in
    let kept : (d : ℕ) → IsBy moments end d → MayGoOn T d scratch =
    subst (λ (xs : List ℕ). (d : ℕ) → IsBy xs end d → MayGoOn T d scratch) c.deref-3.ensures.value c.in_ok-begin.ensures.kept in
    let later : (d : ℕ) → LiesAt moments end d → AreLeastAt T k s d (kept_of scratch) =
    subst (λ (xs : List ℕ). (d : ℕ) → LiesAt xs end d → AreLeastAt T k s d (kept_of scratch)) c.deref-3.ensures.value c.in_ok-begin.ensures.later in
    record {
      same = c.in_ok-begin.ensures.same;
      from = c.in_ok-begin.ensures.source;
      may = λ i lt. kept (get_or moments i 0) (λ j le in'. rising_le moments are.rising i j (omega (arith, lt, le)) in');
      later = λ i next. later (get_or moments i 0 + 1) (lies_after (IsEvent T s) moments are i end next (omega (arith, next, within)));
      has = subst (λ (list : List Connection). HasFound (Reaches T 0 k s c.args.to) c.args.window moments end list) (sym c.new-found.ensures.items)
          (has_none (IsEvent T s) (Reaches T 0 k s c.args.to) (reached_events T k s c.args.to) c.args.window moments are end splits);
      journeys = subst (λ (list : List Connection). All (λ (x : Connection). IsJourney T s c.args.to x.departure x.journey) list) (sym c.new-found.ensures.items)
          (λ i d lt. absurd (let z : ⊥ = omega (arith, lt) in z));
    }

pub loop-index-preserved : goal.loop-index-preserved
loop-index-preserved c =
    let T = c.args.network.now in
    let s = c.args.from in
    let k = rides_of c.args.scratch.now in
    let W = c.args.window in
    let moments = c.in_ok-events.events.items in
    let end = c.count_up_to-end.result in
    let inv = c.loop-index.invariant in
    let now = c.in_ok-add_event.ensures in
    let i : ℕ = c.loop-index.index - 1 in
    let some = c.loop-index-test.true in
    let most = c.loop-index.auto.index in
    let are : AreMoments (IsEvent T s) moments = moments_are T s moments (subst (λ (t : Table). AreEvents t s moments) c.timetable.ensures.value c.in_ok-events.ensures) in
    let splits : SplitsAt moments W.last end = subst (λ (xs : List ℕ). SplitsAt xs W.last end) c.deref.ensures.value c.count_up_to-end.ensures.split in
    let within : end ≤ length moments = subst (λ (xs : List ℕ). end ≤ length xs) c.deref.ensures.value c.count_up_to-end.ensures.within in
    let first : LiesAt moments c.count_before-first.result W.first = subst (λ (xs : List ℕ). LiesAt xs c.count_before-first.result W.first) c.deref-2.ensures.value c.count_before-first.ensures in
    let in' : i < length moments = omega (arith, some, most, within) in
    let event : c.index.result.now ≡ get_or moments i 0 = c.index.ensures ∙ get_or_default moments i c.index.result.now 0 in' in
    let scratch = c.add_event.new.scratch in
    let rounds : AreRounds T s (get_or moments i 0) k (kept_of scratch) =
    subst (λ (d : ℕ). AreRounds T s d k (kept_of scratch)) event
    (subst (λ (x : ℕ). AreRounds T s c.index.result.now x (kept_of scratch)) inv.same.rides
    (subst (λ (x : ℕ). AreRounds T x c.index.result.now (rides_of c.loop-index.scratch) (kept_of scratch)) inv.from now.on.right)) in
    let list = c.loop-index.found.items in
    let before : AreFound (Reaches T 0 k s c.args.to) (between (get_or moments i 0 + 1) W.last) list =
    found_after (IsEvent T s) (Reaches T 0 k s c.args.to) (reached_events T k s c.args.to) W moments are i list in'
    (subst (λ (n : ℕ). HasFound (Reaches T 0 k s c.args.to) W moments n list) (let z : c.loop-index.index ≡ i + 1 = omega (arith, some) in z) inv.has) in
    let last = splits.0 i (omega (arith, some, most)) in
    let found : AreFound (Reaches T 0 k s c.args.to) (between (get_or moments i 0) W.last) c.add_event.new.found.items =
    subst (λ (d : ℕ). AreFound (Reaches T 0 k s c.args.to) (between d W.last) c.add_event.new.found.items) event
    (subst (λ (x : ℕ). AreFound (Reaches T 0 x s c.args.to) (between c.index.result.now W.last) c.add_event.new.found.items) inv.same.rides
    (now.found W.last (omega (arith, event, last))
    (subst (λ (x : ℕ). AreFound (Reaches T 0 x s c.args.to) (between (c.index.result.now + 1) W.last) list) (sym inv.same.rides)
    (subst (λ (d : ℕ). AreFound (Reaches T 0 k s c.args.to) (between (d + 1) W.last) list) (sym event) before)))) in
    record {
      same = record { rides = now.on.same.rides ∙ inv.same.rides; made = λ t is. now.on.same.made t (inv.same.made t is) };
      from = now.on.source ∙ inv.from;
      may = λ j lt.
          let less = rising_lt moments are.rising j i lt in' in
          now.on.kept (get_or moments j 0) (let z : get_or moments j 0 ≤ c.index.result.now = omega (arith, less, event) in z);
      later = λ j next. least_before T k s moments are (kept_of scratch) i j next in' rounds;
      has = has_from (IsEvent T s) (Reaches T 0 k s c.args.to) (reached_events T k s c.args.to) W moments are i c.add_event.new.found.items in' (first.1 i (omega (arith, some)) in') found;
      journeys = now.journeys inv.journeys;
    }

pub add_event-requires-clause-event : goal.add_event-requires-clause-event
add_event-requires-clause-event c =
    let T = c.args.network.now in
    let moments = c.in_ok-events.events.items in
    let i : ℕ = c.loop-index.index - 1 in
    let some = c.loop-index-test.true in
    let most = c.loop-index.auto.index in
    let are : AreMoments (IsEvent T c.args.from) moments = moments_are T c.args.from moments (subst (λ (t : Table). AreEvents t c.args.from moments) c.timetable.ensures.value c.in_ok-events.ensures) in
    let within : c.count_up_to-end.result ≤ length moments = subst (λ (xs : List ℕ). c.count_up_to-end.result ≤ length xs) c.deref.ensures.value c.count_up_to-end.ensures.within in
    let in' : i < length moments = omega (arith, some, most, within) in
    subst (λ (d : ℕ). IsEvent T c.args.from d) (sym (c.index.ensures ∙ get_or_default moments i c.index.result.now 0 in')) (moment_is (IsEvent T c.args.from) moments i are in')

pub add_event-requires-clause-kept : goal.add_event-requires-clause-kept
add_event-requires-clause-kept c =
    let moments = c.in_ok-events.events.items in
    let i : ℕ = c.loop-index.index - 1 in
    let some = c.loop-index-test.true in
    let most = c.loop-index.auto.index in
    let within : c.count_up_to-end.result ≤ length moments = subst (λ (xs : List ℕ). c.count_up_to-end.result ≤ length xs) c.deref.ensures.value c.count_up_to-end.ensures.within in
    let in' : i < length moments = omega (arith, some, most, within) in
    subst (λ (d : ℕ). MayGoOn c.args.network.now d c.loop-index.scratch) (sym (c.index.ensures ∙ get_or_default moments i c.index.result.now 0 in'))
    (c.loop-index.invariant.may i (omega (arith, some)))

pub add_event-requires-clause-later : goal.add_event-requires-clause-later
add_event-requires-clause-later c =
    let moments = c.in_ok-events.events.items in
    let i : ℕ = c.loop-index.index - 1 in
    let some = c.loop-index-test.true in
    let most = c.loop-index.auto.index in
    let inv = c.loop-index.invariant in
    let within : c.count_up_to-end.result ≤ length moments = subst (λ (xs : List ℕ). c.count_up_to-end.result ≤ length xs) c.deref.ensures.value c.count_up_to-end.ensures.within in
    let in' : i < length moments = omega (arith, some, most, within) in
    subst (λ (d : ℕ). AreLeastAt c.args.network.now (rides_of c.loop-index.scratch) c.args.from (d + 1) (kept_of c.loop-index.scratch))
    (sym (c.index.ensures ∙ get_or_default moments i c.index.result.now 0 in'))
    (subst (λ (x : ℕ). AreLeastAt c.args.network.now x c.args.from (get_or moments i 0 + 1) (kept_of c.loop-index.scratch)) (sym inv.same.rides)
    (inv.later i (omega (arith, some))))

pub returns-clause-right : goal.returns-clause-right
returns-clause-right c =
    let T = c.args.network.now in
    let s = c.args.from in
    let k = rides_of c.args.scratch.now in
    let W = c.args.window in
    let moments = c.in_ok-events.events.items in
    let list = c.loop-index.found.items in
    let past = c.loop-index-test.false in
    let are : AreMoments (IsEvent T s) moments = moments_are T s moments (subst (λ (t : Table). AreEvents t s moments) c.timetable.ensures.value c.in_ok-events.ensures) in
    let first : LiesAt moments c.count_before-first.result W.first = subst (λ (xs : List ℕ). LiesAt xs c.count_before-first.result W.first) c.deref-2.ensures.value c.count_before-first.ensures in
    turned (Reaches T 0 k s c.args.to) W list c.reverse.new.self.items c.reverse.ensures.permutation
    (subst (λ (n : ℕ). ReversedBelow list c.reverse.new.self.items n) c.loop-index.found.ok.0 c.reverse.ensures.by_index)
    (found_all (IsEvent T s) (Reaches T 0 k s c.args.to) (reached_events T k s c.args.to) W moments are c.loop-index.index c.count_before-first.result list past first.0 c.loop-index.invariant.has)

pub returns-clause-journeys : goal.returns-clause-journeys
returns-clause-journeys c =
    let list = c.loop-index.found.items in
    let new = c.reverse.new.self.items in
    let Is = λ (x : Connection). IsJourney c.args.network.now c.args.from c.args.to x.departure x.journey in
    all_from Is new (λ x h. All-contains Is list x c.loop-index.invariant.journeys (Contains-permutation new list x (IsPermutation-sym list new c.reverse.ensures.permutation) h))

pub returns-clause-departures : goal.returns-clause-departures
returns-clause-departures c =
    scanned_then c.args.network.now (rides_of c.args.scratch.now) c.args.from c.args.to c.args.window c.reverse.new.self.items (returns-clause-right c).each (returns-clause-journeys c)

pub returns-in_err-add_event-clause-same : goal.returns-in_err-add_event-clause-same
returns-in_err-add_event-clause-same c =
    let inv = c.loop-index.invariant.same in
    let on = c.add_event.ensures.on.same in
    record { rides = on.rides ∙ inv.rides; made = λ t is. on.made t (inv.made t is) }

pub index-requires : goal.index-requires
index-requires c =
    omega (arith, c.loop-index-test.true, c.loop-index.auto.index, c.count_up_to-end.ensures.within, c.deref.ensures.len)
