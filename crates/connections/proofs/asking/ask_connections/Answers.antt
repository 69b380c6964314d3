use Rattle.std.proofs.Common.{Option, Some, None, ◌≡◌, ℕ, ◌+◌, ◌-◌, ◌<◌, ◌≤◌, List, length, map, get_or, arith, sym, ◌∙◌, subst}
use Rattle.std.specs.List.{All, ReversedBelow}
use Rattle.std.proofs.lemmas.List.{get_or_default}
use Rattle.std.proofs.lemmas.List.Sorted.{Contains-permutation, IsPermutation-sym}
use Rattle.std.proofs.lemmas.List.Elements.{All-contains}
use Rattle.timetable.specs.declared.parts.TheConstants.{LATEST_MOMENT}
use Rattle.timetable.specs.Table.{Table}
use Rattle.timetable.specs.Front.{AreBest}
use Rattle.pattern_query.specs.Answer.{PointData, numbers}
use Rattle.pattern_query.specs.Questions.{Held, IsAskedPoint}
use Rattle.connections.specs.declared.connection.Connection.{Connection}
use Rattle.connections.specs.Connections.{WalksLeast}
use Rattle.connections.specs.Found.{AreAfter, AreFound, AreMoments, IsEventOf, LiesAt, Scope, SplitsAt, between, points_in}
use Rattle.connections.proofs.LeaveFacts.{asked_then}
use Rattle.connections.proofs.EventFacts.{lies_after, between_moments, rising_le, rising_lt}
use Rattle.connections.proofs.FoundFacts.{all_from, HasFound, has_none, found_after, has_from, found_all, turned}
use Rattle.connections.proofs.TreeFacts.{is_flow, after_next}
use Rattle.connections.proofs.asking.ask_connections.Goals as goal

-- the best at an event stand for all that begin after the event before
after_before : (table : Table) (held : Held) (froms tos : List ℕ) (scope : Option ℕ) (moments : List ℕ) → AreMoments (IsEventOf table froms) moments
    → (i j : ℕ) → j + 1 ≡ i → i < length moments
    → (points : List PointData) → AreBest (Scope table held froms tos scope (get_or moments i 0)) (map numbers points)
    → AreAfter (Scope table held froms tos scope) (get_or moments j 0) points
after_before table held froms tos scope moments are i j next in' points best =
    let less = rising_lt moments are.rising j i (omega (arith, next)) in' in
    after_next (IsEventOf table froms) (Scope table held froms tos scope) (is_flow table held froms tos scope) (get_or moments j 0) (get_or moments i 0) points less
    (λ x lt below. between_moments (IsEventOf table froms) moments i (get_or moments j 0 + 1) are
    (lies_after (IsEventOf table froms) moments are j i next (omega (arith, next, in')))
    (λ n le lt'. rising_le moments are.rising i n le lt') x (omega (arith, lt)) below) best

pub answer_after-next-requires-clause-events : goal.answer_after-next-requires-clause-events
answer_after-next-requires-clause-events g c =
    subst (λ (xs : List ℕ). AreMoments (IsEventOf c.args.network.now c.args.froms.now) xs) (sym c.deref-3.ensures.value) c.in_ok-events.ensures.moments

pub answer_after-next-requires-clause-early : goal.answer_after-next-requires-clause-early
answer_after-next-requires-clause-early g c =
    subst (λ (xs : List ℕ). All (λ e. e ≤ LATEST_MOMENT) xs) (sym c.deref-3.ensures.value) c.in_ok-events.ensures.early

pub loop-index-init : goal.loop-index-init
loop-index-init g c =
    let T = c.args.network.now in
    let held : Held = g.T.Trees.held c.args.trees.now in
    let froms = c.args.froms.now in
    let tos = c.args.tos.now in
    let moments = c.in_ok-events.events.items in
    let end = c.count_up_to-end.result in
    let are : AreMoments (IsEventOf T froms) moments = c.in_ok-events.ensures.moments in
    let splits : SplitsAt moments c.args.window.last end = subst (λ (xs : List ℕ). SplitsAt xs c.args.window.last end) c.deref.ensures.value c.count_up_to-end.ensures.split in
    let within : end ≤ length moments = subst (λ (xs : List ℕ). end ≤ length xs) c.deref.ensures.value c.count_up_to-end.ensures.within in
    record {
      after = λ scope i next is. c.answer_after-next.ensures scope (get_or moments i 0) is
          (subst (λ (xs : List ℕ). LiesAt xs end (get_or moments i 0 + 1)) (sym c.deref-3.ensures.value)
          (lies_after (IsEventOf T froms) moments are i end next (omega (arith, next, within))));
      points = subst (λ (list : List Connection). All (λ (x : Connection). IsAskedPoint T held froms tos x.departure x.journey) list) (sym c.new-found.ensures.items)
          (λ i d lt. absurd (let z : ⊥ = omega (arith, lt) in z));
      last = subst (λ (list : List Connection). All (WalksLeast T held froms tos) list) (sym c.new-found.ensures.items)
          (λ i d lt. absurd (let z : ⊥ = omega (arith, lt) in z));
      has = λ scope is. subst (λ (list : List Connection). HasFound (Scope T held froms tos scope) c.args.window moments end list) (sym c.new-found.ensures.items)
          (has_none (IsEventOf T froms) (Scope T held froms tos scope) (is_flow T held froms tos scope).events c.args.window moments are end splits);
    }

pub loop-index-preserved : goal.loop-index-preserved
loop-index-preserved g c =
    let T = c.args.network.now in
    let held : Held = g.T.Trees.held c.args.trees.now in
    let froms = c.args.froms.now in
    let tos = c.args.tos.now in
    let W = c.args.window in
    let moments = c.in_ok-events.events.items in
    let end = c.count_up_to-end.result in
    let inv = c.loop-index.invariant in
    let now = c.in_ok-add_answer.ensures in
    let i : ℕ = c.loop-index.index - 1 in
    let some = c.loop-index-test.true in
    let most = c.loop-index.auto.index in
    let are : AreMoments (IsEventOf T froms) moments = c.in_ok-events.ensures.moments in
    let splits : SplitsAt moments W.last end = subst (λ (xs : List ℕ). SplitsAt xs W.last end) c.deref.ensures.value c.count_up_to-end.ensures.split in
    let within : end ≤ length moments = subst (λ (xs : List ℕ). end ≤ length xs) c.deref.ensures.value c.count_up_to-end.ensures.within in
    let first : LiesAt moments c.count_before-first.result W.first = subst (λ (xs : List ℕ). LiesAt xs c.count_before-first.result W.first) c.deref-2.ensures.value c.count_before-first.ensures in
    let in' : i < length moments = omega (arith, some, most, within) in
    let event : c.index-event.result.now ≡ get_or moments i 0 = c.index-event.ensures ∙ get_or_default moments i c.index-event.result.now 0 in' in
    let list = c.loop-index.found.items in
    let new = c.add_answer.new.found.items in
    let answer = c.in_ok-add_answer.field-0 in
    let last = splits.0 i (omega (arith, some, most)) in
    record {
      after = λ scope j next is. after_before T held froms tos scope moments are i j next in' answer
          (subst (λ (d : ℕ). AreBest (Scope T held froms tos scope d) (map numbers answer)) event (now.best scope is));
      points = now.points inv.points;
      last = now.last inv.last;
      has = λ scope is.
          let Of = Scope T held froms tos scope in
          let flow = is_flow T held froms tos scope in
          let before : AreFound Of (between (get_or moments i 0 + 1) W.last) list =
          found_after (IsEventOf T froms) Of flow.events W moments are i list in'
          (subst (λ (n : ℕ). HasFound Of W moments n list) (let z : c.loop-index.index ≡ i + 1 = omega (arith, some) in z) (inv.has scope is)) in
          let found : AreFound Of (between (get_or moments i 0) W.last) new =
          subst (λ (d : ℕ). AreFound Of (between d W.last) new) event
          (now.found scope W.last is (omega (arith, event, last)) (subst (λ (d : ℕ). AreFound Of (between (d + 1) W.last) list) (sym event) before)) in
          has_from (IsEventOf T froms) Of flow.events W moments are i new in' (first.1 i (omega (arith, some)) in') found;
    }

pub add_answer-requires-clause-early : goal.add_answer-requires-clause-early
add_answer-requires-clause-early g c =
    let moments = c.in_ok-events.events.items in
    let i : ℕ = c.loop-index.index - 1 in
    let some = c.loop-index-test.true in
    let most = c.loop-index.auto.index in
    let within : c.count_up_to-end.result ≤ length moments = subst (λ (xs : List ℕ). c.count_up_to-end.result ≤ length xs) c.deref.ensures.value c.count_up_to-end.ensures.within in
    let in' : i < length moments = omega (arith, some, most, within) in
    subst (λ (d : ℕ). d ≤ LATEST_MOMENT) (sym (c.index-event.ensures ∙ get_or_default moments i c.index-event.result.now 0 in')) (c.in_ok-events.ensures.early i 0 in')

pub add_answer-requires-clause-after : goal.add_answer-requires-clause-after
add_answer-requires-clause-after g c = λ scope is.
    let held : Held = g.T.Trees.held c.args.trees.now in
    let moments = c.in_ok-events.events.items in
    let i : ℕ = c.loop-index.index - 1 in
    let some = c.loop-index-test.true in
    let most = c.loop-index.auto.index in
    let within : c.count_up_to-end.result ≤ length moments = subst (λ (xs : List ℕ). c.count_up_to-end.result ≤ length xs) c.deref.ensures.value c.count_up_to-end.ensures.within in
    let in' : i < length moments = omega (arith, some, most, within) in
    subst (λ (d : ℕ). AreAfter (Scope c.args.network.now held c.args.froms.now c.args.tos.now scope) d (points_in c.loop-index.next))
    (sym (c.index-event.ensures ∙ get_or_default moments i c.index-event.result.now 0 in'))
    (c.loop-index.invariant.after scope i (let z : i + 1 ≡ c.loop-index.index = omega (arith, some) in z) is)

pub returns-clause-points : goal.returns-clause-points
returns-clause-points g c =
    let list = c.loop-index.found.items in
    let new = c.reverse.new.self.items in
    let held : Held = g.T.Trees.held c.args.trees.now in
    let Is = λ (x : Connection). IsAskedPoint c.args.network.now held c.args.froms.now c.args.tos.now x.departure x.journey in
    all_from Is new (λ x h. All-contains Is list x c.loop-index.invariant.points (Contains-permutation new list x (IsPermutation-sym list new c.reverse.ensures.permutation) h))

pub returns-clause-last : goal.returns-clause-last
returns-clause-last g c =
    let list = c.loop-index.found.items in
    let new = c.reverse.new.self.items in
    let held : Held = g.T.Trees.held c.args.trees.now in
    let Is = WalksLeast c.args.network.now held c.args.froms.now c.args.tos.now in
    all_from Is new (λ x h. All-contains Is list x c.loop-index.invariant.last (Contains-permutation new list x (IsPermutation-sym list new c.reverse.ensures.permutation) h))

pub returns-clause-best : goal.returns-clause-best
returns-clause-best g c =
    let T = c.args.network.now in
    let held : Held = g.T.Trees.held c.args.trees.now in
    let froms = c.args.froms.now in
    let tos = c.args.tos.now in
    let moments = c.in_ok-events.events.items in
    let list = c.loop-index.found.items in
    let are : AreMoments (IsEventOf T froms) moments = c.in_ok-events.ensures.moments in
    let first : LiesAt moments c.count_before-first.result c.args.window.first = subst (λ (xs : List ℕ). LiesAt xs c.count_before-first.result c.args.window.first) c.deref-2.ensures.value c.count_before-first.ensures in
    turned (Scope T held froms tos None) c.args.window list c.reverse.new.self.items c.reverse.ensures.permutation
    (subst (λ (n : ℕ). ReversedBelow list c.reverse.new.self.items n) c.loop-index.found.ok.0 c.reverse.ensures.by_index)
    (found_all (IsEventOf T froms) (Scope T held froms tos None) (is_flow T held froms tos None).events c.args.window moments are c.loop-index.index c.count_before-first.result list
    c.loop-index-test.false first.0 (c.loop-index.invariant.has None tt))

pub returns-clause-exact : goal.returns-clause-exact
returns-clause-exact g c = λ k whole.
    let T = c.args.network.now in
    let held : Held = g.T.Trees.held c.args.trees.now in
    let froms = c.args.froms.now in
    let tos = c.args.tos.now in
    let moments = c.in_ok-events.events.items in
    let list = c.loop-index.found.items in
    let are : AreMoments (IsEventOf T froms) moments = c.in_ok-events.ensures.moments in
    let first : LiesAt moments c.count_before-first.result c.args.window.first = subst (λ (xs : List ℕ). LiesAt xs c.count_before-first.result c.args.window.first) c.deref-2.ensures.value c.count_before-first.ensures in
    turned (Scope T held froms tos (Some k)) c.args.window list c.reverse.new.self.items c.reverse.ensures.permutation
    (subst (λ (n : ℕ). ReversedBelow list c.reverse.new.self.items n) c.loop-index.found.ok.0 c.reverse.ensures.by_index)
    (found_all (IsEventOf T froms) (Scope T held froms tos (Some k)) (is_flow T held froms tos (Some k)).events c.args.window moments are c.loop-index.index c.count_before-first.result list
    c.loop-index-test.false first.0 (c.loop-index.invariant.has (Some k) whole))

pub returns-clause-departures : goal.returns-clause-departures
returns-clause-departures g c =
    asked_then c.args.network.now (g.T.Trees.held c.args.trees.now) c.args.froms.now c.args.tos.now c.args.window c.reverse.new.self.items (returns-clause-best g c).each (returns-clause-points g c)
