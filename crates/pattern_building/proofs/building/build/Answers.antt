use Rattle.std.proofs.Common.{Option, ◌≡◌, ◌≢◌, ℕ, ◌+◌, ◌-◌, ◌<◌, ◌≤◌, inl, inr, arith, sym, ◌∙◌, ap, subst, get_or, length, List, [], Err}
use Rattle.std.specs.List.{AllPairs}
use Rattle.std.specs.List.Sorted.{IsStrictlyIncreasing}
use Rattle.std.proofs.lemmas.Bool.{cases_eq}
use Rattle.std.proofs.lemmas.List.{get_or_default}
use Rattle.std.proofs.lemmas.List.Kept.{AllPairs-from_increasing}
use Rattle.std.proofs.lemmas.List.Elements.{at_from_Contains}
use Rattle.timetable.specs.Table.{Table, stops_of}
use Rattle.rounds.specs.Mark.{Mark}
use Rattle.rounds.specs.Answers.{AreRounds}
use Rattle.rounds.specs.Events.{IsEvent}
use Rattle.rounds.specs.declared.scratch.Scratch.{Scratch}
use Rattle.rounds.specs.Scratch.{MayGoOn, rides_of, source_of, kept_of}
use Rattle.pattern_tree.specs.declared.fault.TreeFault.{TreeFault}
use Rattle.pattern_tree.specs.Forest.{Pair}
use Rattle.pattern_tree.specs.Content.{Content}
use Rattle.pattern_tree.specs.Completeness.{Earned, TooManyAreEarned}
use Rattle.pattern_building.specs.RoundPairs.{Keeps, CompleteAt}
use Rattle.pattern_building.specs.Lowered.{AreLater}
use Rattle.pattern_building.proofs.LaterFacts.{later_of, later_none}
use Rattle.pattern_building.proofs.CompleteFacts.{complete_of, complete_kept, short_of, same_fault}
use Rattle.pattern_building.proofs.building.build.Goals as goal

pub loop-index-init : goal.loop-index-init
loop-index-init g c =
    let T = c.args.table.now in
    let k = rides_of c.args.scratch.now in
    let count = c.len-index.ensures in
    let pairs : c.in_ok-tree.tree.pairs ≡ [] = ap (λ (x : Content). x.pairs) c.in_ok-tree.ensures in
    record {
      same = c.restart.ensures.same;
      from = c.restart.ensures.source;
      may = λ i _. c.restart.ensures.kept T (get_or c.in_ok-moments.moments.items i 0) c.requires.table;
      source = ap (λ (x : Content). x.source) c.in_ok-tree.ensures;
      once = subst (λ (ps : List Pair). AllPairs (λ p q. p ≢ q) ps) (sym pairs) (λ i j d lt below. absurd (omega (arith, below)));
      earned = subst (λ (ps : List Pair). Earned T k c.args.source ps) (sym pairs) (λ path t h. let below = h.1 in absurd (omega (arith, below)));
      complete = λ i le lt. absurd (let z : ⊥ = omega (arith, count, le, lt) in z);
      later = λ i _. later_none T c.args.source k c.in_ok-tree.tree.pairs (kept_of c.restart.new.self) (get_or c.in_ok-moments.moments.items i 0) c.restart.ensures.none;
    }

-- what is known once the events from i on are done
done : (T : Table) (s k i : ℕ) (moments : List ℕ) (old new : List Pair) (kept : List (List (Option Mark))) → IsStrictlyIncreasing moments → i < length moments
    → Keeps old new → AreRounds T s (get_or moments i 0) k kept → CompleteAt T k s (get_or moments i 0) new
    → ((j : ℕ) → i + 1 ≤ j → j < length moments → CompleteAt T k s (get_or moments j 0) old)
    → ((j : ℕ) → i ≤ j → j < length moments → CompleteAt T k s (get_or moments j 0) new)
    × ((j : ℕ) → j < i → AreLater T k s (get_or moments j 0) new kept)
done T s k i moments old new kept rising in' keeps are complete before = (
  λ j le lt. elim (cases_eq j i) [
    | inl e ↦ subst (λ (x : ℕ). CompleteAt T k s (get_or moments x 0) new) (sym e) complete
    | inr apart ↦ complete_kept T s k (get_or moments j 0) old new keeps (before j (omega (arith, le, apart)) lt)
  ],
  λ j lt.
      let less : get_or moments j 0 < get_or moments i 0 = AllPairs-from_increasing moments rising j i 0 lt in' in
      later_of T s k new kept (get_or moments j 0) (get_or moments i 0) (omega (arith, less)) are complete,
)

-- the scratch has the rides and the source of this build
module _ (T : Table) (s k : ℕ) (scratch : Scratch) (rides : rides_of scratch ≡ k) (from : source_of scratch ≡ s) where
  complete_here : (e d : ℕ) (content : List Pair) → e ≡ d → CompleteAt T (rides_of scratch) (source_of scratch) e content → CompleteAt T k s d content
  complete_here e d content same is =
      subst (λ (x : ℕ). CompleteAt T k s x content) same
      (subst (λ (x : ℕ). CompleteAt T x s e content) rides (subst (λ (x : ℕ). CompleteAt T (rides_of scratch) x e content) from is))

  rounds_here : (e d : ℕ) (kept : List (List (Option Mark))) → e ≡ d → AreRounds T (source_of scratch) e (rides_of scratch) kept → AreRounds T s d k kept
  rounds_here e d kept same is =
      subst (λ (x : ℕ). AreRounds T s x k kept) same
      (subst (λ (x : ℕ). AreRounds T s e x kept) rides (subst (λ (x : ℕ). AreRounds T x e (rides_of scratch) kept) from is))

  earned_here : (content : List Pair) → Earned T (rides_of scratch) (source_of scratch) content → Earned T k s content
  earned_here content is = subst (λ (x : ℕ). Earned T x s content) rides (subst (λ (x : ℕ). Earned T (rides_of scratch) x content) from is)

  earned_there : (content : List Pair) → Earned T k s content → Earned T (rides_of scratch) (source_of scratch) content
  earned_there content is =
      subst (λ (x : ℕ). Earned T (rides_of scratch) x content) (sym from) (subst (λ (x : ℕ). Earned T x s content) (sym rides) is)

  later_there : (d e : ℕ) (content : List Pair) → e ≡ d → AreLater T k s d content (kept_of scratch)
      → AreLater T (rides_of scratch) (source_of scratch) e content (kept_of scratch)
  later_there d e content same is =
      subst (λ (x : ℕ). AreLater T (rides_of scratch) x e content (kept_of scratch)) (sym from)
      (subst (λ (x : ℕ). AreLater T x s e content (kept_of scratch)) (sym rides)
      (subst (λ (x : ℕ). AreLater T k s x content (kept_of scratch)) (sym same) is))

  many_here : TooManyAreEarned T (rides_of scratch) (source_of scratch) → TooManyAreEarned T k s
  many_here is = subst (λ (x : ℕ). TooManyAreEarned T x s) rides (subst (λ (x : ℕ). TooManyAreEarned T (rides_of scratch) x) from is)

pub loop-index-preserved : goal.loop-index-preserved
loop-index-preserved g c =
    let T = c.args.table.now in
    let s = c.args.source in
    let k = rides_of c.args.scratch.now in
    let inv = c.loop-index.invariant in
    let new = c.in_ok-add_event.ensures in
    let i : ℕ = c.loop-index.index - 1 in
    let moments = c.in_ok-moments.moments.items in
    let some = c.loop-index-test.true in
    let most = c.loop-index.auto.index in
    let count = c.len-index.ensures in
    let in' : i < length moments = omega (arith, some, most, count) in
    let event : c.index.result.now ≡ get_or moments i 0 = c.index.ensures ∙ get_or_default moments i c.index.result.now 0 in' in
    let after = c.add_event.new.scratch in
    let pairs = c.add_event.new.tree.pairs in
    let here = complete_here T s k c.loop-index.scratch inv.same.rides inv.from c.index.result.now (get_or moments i 0) pairs event new.complete in
    let are = rounds_here T s k c.loop-index.scratch inv.same.rides inv.from c.index.result.now (get_or moments i 0) (kept_of after) event new.on.right in
    let both = done T s k i moments c.loop-index.tree.pairs pairs (kept_of after) c.in_ok-moments.ensures.rising in' new.keeps are here
    (λ j le lt. inv.complete j (omega (arith, le, some)) lt) in
    record {
      same = record { rides = new.on.same.rides ∙ inv.same.rides; made = λ t is. new.on.same.made t (inv.same.made t is) };
      from = new.on.source ∙ inv.from;
      may = λ j lt.
          let less : get_or moments j 0 < get_or moments i 0 = AllPairs-from_increasing moments c.in_ok-moments.ensures.rising j i 0 lt in' in
          new.on.kept (get_or moments j 0) (let z : get_or moments j 0 ≤ c.index.result.now = omega (arith, less, event) in z);
      source = new.source ∙ inv.source;
      once = new.once;
      earned = earned_here T s k c.loop-index.scratch inv.same.rides inv.from pairs new.earned;
      complete = both.0;
      later = both.1;
    }

-- the moment of this event
event_at : (moments : List ℕ) (i event : ℕ) → event ≡ get_or moments i event → i < length moments → event ≡ get_or moments i 0
event_at moments i event e in' = e ∙ get_or_default moments i event 0 in'

pub add_event-requires-clause-event : goal.add_event-requires-clause-event
add_event-requires-clause-event g c =
    let i : ℕ = c.loop-index.index - 1 in
    let some = c.loop-index-test.true in
    let most = c.loop-index.auto.index in
    let count = c.len-index.ensures in
    let in' : i < length c.in_ok-moments.moments.items = omega (arith, some, most, count) in
    subst (λ (x : ℕ). IsEvent c.args.table.now x c.index.result.now) (sym c.loop-index.invariant.from)
    (c.in_ok-moments.ensures.each c.index.result.now (i, in', sym c.index.ensures))

pub add_event-requires-clause-later : goal.add_event-requires-clause-later
add_event-requires-clause-later g c =
    let inv = c.loop-index.invariant in
    let i : ℕ = c.loop-index.index - 1 in
    let some = c.loop-index-test.true in
    let most = c.loop-index.auto.index in
    let count = c.len-index.ensures in
    let in' : i < length c.in_ok-moments.moments.items = omega (arith, some, most, count) in
    let event = event_at c.in_ok-moments.moments.items i c.index.result.now c.index.ensures in' in
    later_there c.args.table.now c.args.source (rides_of c.args.scratch.now) c.loop-index.scratch inv.same.rides inv.from
    (get_or c.in_ok-moments.moments.items i 0) c.index.result.now c.loop-index.tree.pairs event (inv.later i (omega (arith, some)))

pub add_event-requires-clause-kept : goal.add_event-requires-clause-kept
add_event-requires-clause-kept g c =
    let inv = c.loop-index.invariant in
    let i : ℕ = c.loop-index.index - 1 in
    let some = c.loop-index-test.true in
    let most = c.loop-index.auto.index in
    let count = c.len-index.ensures in
    let in' : i < length c.in_ok-moments.moments.items = omega (arith, some, most, count) in
    let event = event_at c.in_ok-moments.moments.items i c.index.result.now c.index.ensures in' in
    subst (λ (d : ℕ). MayGoOn c.args.table.now d c.loop-index.scratch) (sym event) (inv.may i (omega (arith, some)))

pub add_event-requires-clause-source : goal.add_event-requires-clause-source
add_event-requires-clause-source g c = subst (λ (x : ℕ). x < stops_of c.args.table.now) (sym c.loop-index.invariant.from) c.requires.source

pub returns-clause-complete : goal.returns-clause-complete
returns-clause-complete g c =
    let T = c.args.table.now in
    let s = c.args.source in
    let k = rides_of c.args.scratch.now in
    let inv = c.loop-index.invariant in
    let moments = c.in_ok-moments.moments.items in
    let f = c.loop-index-test.false in
    rw c.into_tree.ensures (complete_of T s k c.loop-index.tree.pairs (λ e event.
    let at = at_from_Contains moments e (c.in_ok-moments.ensures.all e event) in
    subst (λ (d : ℕ). CompleteAt T k s d c.loop-index.tree.pairs) (at.2 0) (inv.complete at.0 (omega (arith, f)) at.1)))

pub returns-clause-short : goal.returns-clause-short
returns-clause-short g c = rw c.into_tree.ensures (short_of c.args.table.now c.args.source (rides_of c.args.scratch.now) c.loop-index.tree.pairs c.loop-index.invariant.earned)

pub add_event-requires-clause-earned : goal.add_event-requires-clause-earned
add_event-requires-clause-earned g c =
    let inv = c.loop-index.invariant in
    earned_there c.args.table.now c.args.source (rides_of c.args.scratch.now) c.loop-index.scratch inv.same.rides inv.from c.loop-index.tree.pairs inv.earned

pub returns-in_err-add_event-clause-large : goal.returns-in_err-add_event-clause-large
returns-in_err-add_event-clause-large g c = λ is.
    let inv = c.loop-index.invariant in
    let fault = same_fault c.from_residual-in_err-add_event.result c.in_err-add_event.field-0.0 c.from_residual-in_err-add_event.ensures.1 is in
    many_here c.args.table.now c.args.source (rides_of c.args.scratch.now) c.loop-index.scratch inv.same.rides inv.from
    (c.add_event.ensures.large (c.in_err-add_event.was ∙ ap (λ (e : TreeFault). Err e) fault))

pub add_event-requires-clause-table : goal.add_event-requires-clause-table
add_event-requires-clause-table g c = c.loop-index.invariant.same.made c.args.table.now c.requires.table

pub returns-in_err-add_event-clause-same : goal.returns-in_err-add_event-clause-same
returns-in_err-add_event-clause-same g c =
    let before = c.loop-index.invariant.same in
    let after = c.add_event.ensures.on.same in
    record { rides = after.rides ∙ before.rides; made = λ t is. after.made t (before.made t is) }
