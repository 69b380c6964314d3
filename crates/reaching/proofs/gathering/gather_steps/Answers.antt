use Rattle.std.proofs.Common.{◌≡◌, ℕ, ◌+◌, ◌-◌, ◌<◌, ◌≤◌, min, List, length, get_or, arith, sym, ◌∙◌, ap, subst, inl, inr}
use Rattle.std.proofs.lemmas.Bool.{cases_lt}
use Rattle.std.proofs.lemmas.List.{get_or_default}
use Rattle.timetable.specs.Journeys.{IsLeast}
use Rattle.rounds.specs.Answers.{ArrivesWithin}
use Rattle.rounds.specs.Events.{AreEvents, IsEvent}
use Rattle.rounds.specs.Mark.{arrival_in}
use Rattle.rounds.specs.Scratch.{MayGoOn, kept_of, rides_of}
use Rattle.reaching.specs.Steps.{AddsStep, LiesAt, SplitsAt, steps_at}
use Rattle.reaching.proofs.EventFacts.{HasSteps, covers, event_at, event_early, has_more, has_none, rising_le}
use Rattle.reaching.proofs.gathering.gather_steps.Goals as goal

-- the moments before the window are among those up to its last
start_by : (moments : List ℕ) (first last start past : ℕ) → first ≤ last → start ≤ length moments → LiesAt moments start first
    → SplitsAt moments last past → start ≤ min (length moments) (past + 1)
start_by moments first last start past some within lies splits = elim (cases_lt past start) [
  | inl lt ↦
      let a = lies.0 past lt in
      let in' : past < length moments = omega (arith, lt, within) in
      let b = splits.1 past (omega arith) in' in
      absurd (let z : ⊥ = omega (arith, a, b, some) in z)
  | inr le ↦ omega (arith, le, within)
]

pub loop-index-init : goal.loop-index-init
loop-index-init c =
    let T = c.args.table.now in
    let k = rides_of c.args.scratch.now in
    let moments = c.in_ok-events.events.items in
    let start = c.count_before-start.result in
    let past = c.count_up_to-past.result in
    let end = c.min-end.result in
    let are : AreEvents T c.args.from moments = c.in_ok-events.ensures in
    let lies = subst (λ (xs : List ℕ). LiesAt xs start c.args.first) c.deref.ensures.value c.count_before-start.ensures.lies in
    let within = subst (λ (xs : List ℕ). start ≤ length xs) c.deref.ensures.value c.count_before-start.ensures.within in
    let splits = subst (λ (xs : List ℕ). SplitsAt xs c.args.last past) c.deref-2.ensures.value c.count_up_to-past.ensures.split in
    let most = subst (λ (xs : List ℕ). past ≤ length xs) c.deref-2.ensures.value c.count_up_to-past.ensures.within in
    let count : c.len.result ≡ length moments = (let n = c.len.ensures in omega (arith, n)) in
    let ends : min (length moments) (past + 1) ≡ end = sym (c.min-end.ensures ∙ ap (λ (n : ℕ). min n (past + 1)) count) in
    record {
      same = c.restart.ensures.same;
      from = c.restart.ensures.source;
      low = subst (λ (n : ℕ). start ≤ n) ends (start_by moments c.args.first c.args.last start past c.requires.some within lies splits);
      may = λ i _. c.restart.ensures.kept T (get_or moments i 0) c.requires.table;
      count = c.in_ok-all.ensures.count ∙ c.stops.ensures.value;
      each = λ t known.
          let before = arrival_in (kept_of c.restart.new.self) k t in
          let steps = steps_at c.in_ok-all.all.items t in
          subst (λ (n : ℕ). HasSteps T k c.args.from t c.args.last moments n before steps) ends
          (has_none T k c.args.from t c.args.last moments are past before steps most splits
          (c.restart.ensures.none k t) (c.in_ok-all.ensures.none t));
    }

pub add_event-requires-clause-early : goal.add_event-requires-clause-early
add_event-requires-clause-early c =
    let T = c.args.table.now in
    let moments = c.in_ok-events.events.items in
    let i : ℕ = c.loop-index.index - 1 in
    let test = c.loop-index-test.true in
    let most = c.loop-index.auto.index in
    let end = c.min-end.ensures in
    let count = c.len.ensures in
    let in' : i < length moments = omega (arith, test, most, end, count) in
    event_early T c.args.from c.index-event.result.now c.stops.ensures.valid
    (subst (λ (d : ℕ). IsEvent T c.args.from d) (sym (c.index-event.ensures ∙ get_or_default moments i c.index-event.result.now 0 in'))
    (event_at T c.args.from moments c.in_ok-events.ensures i in'))

pub add_event-requires-clause-kept : goal.add_event-requires-clause-kept
add_event-requires-clause-kept c =
    let moments = c.in_ok-events.events.items in
    let i : ℕ = c.loop-index.index - 1 in
    let test = c.loop-index-test.true in
    let most = c.loop-index.auto.index in
    let end = c.min-end.ensures in
    let count = c.len.ensures in
    let in' : i < length moments = omega (arith, test, most, end, count) in
    subst (λ (d : ℕ). MayGoOn c.args.table.now d c.loop-index.scratch)
    (sym (c.index-event.ensures ∙ get_or_default moments i c.index-event.result.now 0 in'))
    (c.loop-index.invariant.may i (omega (arith, test)))

pub loop-index-preserved : goal.loop-index-preserved
loop-index-preserved c =
    let T = c.args.table.now in
    let s = c.args.from in
    let k = rides_of c.args.scratch.now in
    let moments = c.in_ok-events.events.items in
    let i : ℕ = c.loop-index.index - 1 in
    let e = get_or moments i 0 in
    let inv = c.loop-index.invariant in
    let now = c.in_ok-add_event.ensures in
    let kept = kept_of c.loop-index.scratch in
    let new = kept_of c.add_event.new.scratch in
    let test = c.loop-index-test.true in
    let most = c.loop-index.auto.index in
    let end = c.min-end.ensures in
    let count = c.len.ensures in
    let in' : i < length moments = omega (arith, test, most, end, count) in
    let event : c.index-event.result.now ≡ e = c.index-event.ensures ∙ get_or_default moments i c.index-event.result.now 0 in' in
    let next : c.loop-index.index ≡ i + 1 = omega (arith, test) in
    let until : c.min.result ≡ min e c.args.last = c.min.ensures ∙ ap (λ (n : ℕ). min n c.args.last) event in
    record {
      same = record { rides = now.on.same.rides ∙ inv.same.rides; made = λ t is. now.on.same.made t (inv.same.made t is) };
      from = now.on.source ∙ inv.from;
      low = (let z : c.count_before-start.result ≤ i = omega (arith, test) in z);
      may = λ j lt.
          let le = rising_le T s moments c.in_ok-events.ensures j i (omega (arith, lt)) in' in
          now.on.kept (get_or moments j 0) (let z : get_or moments j 0 ≤ c.index-event.result.now = omega (arith, le, event) in z);
      count = now.count ∙ inv.count;
      each = λ t known.
          let old = steps_at c.loop-index.all.items t in
          let steps = steps_at c.add_event.new.all.items t in
          let at : ℕ = c.index-event.result.now in
          let rides : ℕ = rides_of c.loop-index.scratch in
          let least : IsLeast (ArrivesWithin T s e k t) (arrival_in new k t) =
          subst (λ (d : ℕ). IsLeast (ArrivesWithin T s d k t) (arrival_in new k t)) event
          (subst (λ (n : ℕ). IsLeast (ArrivesWithin T s at n t) (arrival_in new n t)) inv.same.rides
          (subst (λ (f : ℕ). IsLeast (ArrivesWithin T f at rides t) (arrival_in new rides t)) inv.from (now.least t known))) in
          let adds : AddsStep (min e c.args.last) (arrival_in new k t) (arrival_in kept k t) old steps =
          subst (λ (u : ℕ). AddsStep u (arrival_in new k t) (arrival_in kept k t) old steps) until
          (subst (λ (n : ℕ). AddsStep c.min.result (arrival_in new n t) (arrival_in kept n t) old steps) inv.same.rides
          (now.added t known)) in
          has_more T k s t c.args.last moments c.in_ok-events.ensures i in' (arrival_in new k t) (arrival_in kept k t) old steps least
          (subst (λ (n : ℕ). HasSteps T k s t c.args.last moments n (arrival_in kept k t) old) next (inv.each t known)) adds;
    }

pub returns-clause-right : goal.returns-clause-right
returns-clause-right c = λ t known.
    let T = c.args.table.now in
    let k = rides_of c.args.scratch.now in
    let moments = c.in_ok-events.events.items in
    let start = c.count_before-start.result in
    let inv = c.loop-index.invariant in
    let low = inv.low in
    let past = c.loop-index-test.false in
    let lies = subst (λ (xs : List ℕ). LiesAt xs start c.args.first) c.deref.ensures.value c.count_before-start.ensures.lies in
    let at : start ≡ c.loop-index.index = omega (arith, low, past) in
    covers T k c.args.from t c.args.last moments c.in_ok-events.ensures c.loop-index.index c.args.first
    (arrival_in (kept_of c.loop-index.scratch) k t) (steps_at c.loop-index.all.items t) c.requires.some
    (subst (λ (n : ℕ). LiesAt moments n c.args.first) at lies) (inv.each t known)

pub returns-in_err-add_event-clause-same : goal.returns-in_err-add_event-clause-same
returns-in_err-add_event-clause-same c =
    let inv = c.loop-index.invariant.same in
    let on = c.add_event.ensures.on.same in
    record { rides = on.rides ∙ inv.rides; made = λ t is. on.made t (inv.made t is) }

pub index-event-requires : goal.index-event-requires
index-event-requires c =
    omega (arith, c.loop-index-test.true, c.loop-index.auto.index, c.min-end.ensures, c.len.ensures)
