use Rattle.std.proofs.Common.{◌≡◌, ◌∙◌, ◌<◌, ◌≤◌, ℕ, Bool, false, List, Option, IfSome, slice_index, length, below_more, arith, refl, sym, subst}
use Rattle.timetable.specs.Table.{Table, stops_of}
use Rattle.pattern_tree.specs.Content.{longest}
use Rattle.rounds.specs.Events.{AreEvents}
use Rattle.auditing.specs.Audits.{AgreesAt}
use Rattle.auditing.specs.Comparing.{IsFirstStop}
use Rattle.auditing.specs.Lacks.{AgreeUnmarked, is_marked}
use Rattle.auditing.proofs.EventFacts.{difference_at, early_at, no_difference}
use Rattle.auditing.proofs.auditing.first_difference.Goals as goal

pub returns-then-not-has_mark-clause-first : goal.returns-then-not-has_mark-clause-first
returns-then-not-has_mark-clause-first c = λ short e event t within.
    let table = c.args.network.now in
    let tree = c.args.patterns.now in
    let marks : List Bool = c.in_ok-marks.marks.items in
    let made = c.in_ok-scratch.ensures.rides in
    let agree : AgreeUnmarked table tree c.args.rides marks = subst (λ (x : Table). AgreeUnmarked x tree c.args.rides marks) c.timetable-table.ensures.value
    (subst (λ (k : ℕ). AgreeUnmarked c.timetable-table.result.now tree k marks) made
    (c.in_ok-marks.ensures.agree (subst (λ (k : ℕ). longest tree.pairs ≤ k) (sym made) short))) in
    let below : t < length c.deref.result.now = (let n = c.in_ok-marks.ensures.size in
    let s = subst (λ (x : Table). t < stops_of x) (sym c.timetable-table.ensures.value) within in
    subst (λ (l : List Bool). t < length l) (sym c.deref.ensures.value) (omega (arith, n, s))) in
    agree t (subst (λ (l : List Bool). is_marked l t ≡ false) c.deref.ensures.value (c.has_mark.ensures c.if-not-has_mark.true t below)) e

pub first_at-requires-clause-early : goal.first_at-requires-clause-early
first_at-requires-clause-early c =
    early_at c.args.network.now c.source-source.result c.deref-depart-items.result.now c.loop-depart.depart-index c.timetable-table.ensures.valid
    (subst (λ (l : List ℕ). AreEvents c.args.network.now c.source-source.result l) (sym c.deref-depart-items.ensures.value)
    (subst (λ (x : Table). AreEvents x c.source-source.result c.in_ok-events.events.items) c.timetable-table.ensures.value c.in_ok-events.ensures))
    c.loop-depart-test.true

pub returns-in-Some-clause-first : goal.returns-in-Some-clause-first
returns-in-Some-clause-first c = λ short.
    let table = c.args.network.now in
    let tree = c.args.patterns.now in
    let k = c.args.rides in
    let marks : List Bool = c.in_ok-marks.marks.items in
    let items = c.deref-depart-items.result.now in
    let i : ℕ = c.loop-depart.depart-index in
    let at : ℕ = slice_index items i in
    let inv = c.loop-depart.invariant in
    let made = c.in_ok-scratch.ensures.rides in
    let agree : AgreeUnmarked table tree k marks = subst (λ (x : Table). AgreeUnmarked x tree k marks) c.timetable-table.ensures.value
    (subst (λ (n : ℕ). AgreeUnmarked c.timetable-table.result.now tree n marks) made
    (c.in_ok-marks.ensures.agree (subst (λ (n : ℕ). longest tree.pairs ≤ n) (sym made) short))) in
    let stop : IsFirstStop table tree k at c.in_ok-found.found = subst (λ (n : ℕ). IsFirstStop table tree n at c.in_ok-found.found) inv.rides
    (c.in_ok-found.ensures.first (subst (λ (n : ℕ). AgreeUnmarked table tree n c.deref-in-loop-depart.result.now) (sym inv.rides)
    (subst (λ (l : List Bool). AgreeUnmarked table tree k l) (sym c.deref-in-loop-depart.ensures.value) agree))) in
    let are : AreEvents table tree.source items = subst (λ (l : List ℕ). AreEvents table tree.source l) (sym c.deref-depart-items.ensures.value)
    (subst (λ (s : ℕ). AreEvents table s c.in_ok-events.events.items) c.source-source.ensures
    (subst (λ (x : Table). AreEvents x c.source-source.result c.in_ok-events.events.items) c.timetable-table.ensures.value c.in_ok-events.ensures)) in
    difference_at table tree k items are i c.in-Some.to c.loop-depart-test.true (inv.so_far short)
    (subst (λ (found : Option ℕ). IsFirstStop table tree k at found) c.in-Some.is stop) _ refl refl

pub loop-depart-preserved : goal.loop-depart-preserved
loop-depart-preserved c =
    let table = c.args.network.now in
    let tree = c.args.patterns.now in
    let k = c.args.rides in
    let marks : List Bool = c.in_ok-marks.marks.items in
    let items = c.deref-depart-items.result.now in
    let i : ℕ = c.loop-depart.depart-index in
    let at : ℕ = slice_index items i in
    let inv = c.loop-depart.invariant in
    let made = c.in_ok-scratch.ensures.rides in
    let same = c.in_ok-found.ensures.same in
    let here : longest tree.pairs ≤ k → AgreesAt table tree k at = λ short.
    let agree : AgreeUnmarked table tree k marks = subst (λ (x : Table). AgreeUnmarked x tree k marks) c.timetable-table.ensures.value
    (subst (λ (n : ℕ). AgreeUnmarked c.timetable-table.result.now tree n marks) made
    (c.in_ok-marks.ensures.agree (subst (λ (n : ℕ). longest tree.pairs ≤ n) (sym made) short))) in
    let stop : IsFirstStop table tree k at c.in_ok-found.found = subst (λ (n : ℕ). IsFirstStop table tree n at c.in_ok-found.found) inv.rides
    (c.in_ok-found.ensures.first (subst (λ (n : ℕ). AgreeUnmarked table tree n c.deref-in-loop-depart.result.now) (sym inv.rides)
    (subst (λ (l : List Bool). AgreeUnmarked table tree k l) (sym c.deref-in-loop-depart.ensures.value) agree))) in
    subst (λ (found : Option ℕ). IsFirstStop table tree k at found) c.in_default.is stop in
    record {
      made = same.made table inv.made;
      rides = same.rides ∙ inv.rides;
      so_far = λ short. below_more (λ (j : ℕ). AgreesAt table tree k (slice_index items j)) i (inv.so_far short) (here short);
    }

pub returns-clause-first : goal.returns-clause-first
returns-clause-first c = λ short.
    let table = c.args.network.now in
    let tree = c.args.patterns.now in
    let items = c.deref-depart-items.result.now in
    let all = c.loop-depart-test.false in
    let are : AreEvents table tree.source items = subst (λ (l : List ℕ). AreEvents table tree.source l) (sym c.deref-depart-items.ensures.value)
    (subst (λ (s : ℕ). AreEvents table s c.in_ok-events.events.items) c.source-source.ensures
    (subst (λ (x : Table). AreEvents x c.source-source.result c.in_ok-events.events.items) c.timetable-table.ensures.value c.in_ok-events.ensures)) in
    no_difference table tree c.args.rides items are (λ i within. c.loop-depart.invariant.so_far short i (omega (arith, within, all)))

pub returns-in-Some-clause-within : goal.returns-in-Some-clause-within
returns-in-Some-clause-within c =
    subst (λ (found : Option ℕ). IfSome found (λ to. to < stops_of c.args.network.now)) c.in-Some.is c.in_ok-found.ensures.within
