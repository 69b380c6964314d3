use Rattle.std.proofs.Common.{◌≡◌, ℕ, ◌<◌, ◌≤◌, List, length, map, take, Some, All, true≢false, refl, sym, ◌∙◌, ap, subst, inl, inr}
use Rattle.std.proofs.lemmas.Bool.{cases_lt}
use Rattle.std.proofs.lemmas.List.{take_all}
use Rattle.timetable.specs.Table.{Table}
use Rattle.pattern_tree.specs.Content.{Content}
use Rattle.feed_ids.specs.Names.{stops_in}
use Rattle.pattern_query.specs.Questions.{Held, IsStored, IsAsked, IsAskedPoint}
use Rattle.pattern_query.specs.Answer.{numbers}
use Rattle.pattern_query.specs.Leaving.{LeaveLast}
use Rattle.pattern_query.specs.Gathered.{IsTo, AddsAsked}
use Rattle.pattern_query.proofs.PlaceFacts.{place_is, no_place}
use Rattle.pattern_query.proofs.GatherSteps.{source_more}
use Rattle.pattern_query.proofs.AnswerSteps.{stored_more, points_are, best_are, exact_are, latest_are}
use Rattle.pattern_query.proofs.LastSteps.{chosen_last}
use Rattle.pattern_query.proofs.LastAsked.{found_journeys, asked_still}
use Rattle.pattern_query.proofs.between.ask_on.Goals as goal

pub returns-in_default-place : goal.returns-in_default-place
returns-in_default-place g c = (
  no_place c.args.names.now c.args.to.now c.in_default-place.ensures.value,
  inr ((stops_in c.in-Some.start, place_is c.args.names.now c.args.from.now c.in-Some.start c.in-Some.ensures.value), refl),
)

pub returns-then-not-covers : goal.returns-then-not-covers
returns-then-not-covers g c = (
  (stops_in c.in-Some.start, place_is c.args.names.now c.args.from.now c.in-Some.start c.in-Some.ensures.value),
  (stops_in c.in-Some-place.end, place_is c.args.names.now c.args.to.now c.in-Some-place.end c.in-Some-place.ensures.value),
  elim (cases_lt c.args.network.now.horizon c.args.depart) [
    | inl lt ↦ lt
    | inr le ↦ absurd (true≢false (sym (c.covers.ensures.1 (subst (λ (t : Table). c.args.depart ≤ t.horizon) (sym c.timetable.ensures.value) le)) ∙ c.if-not-covers.true))
  ],
)

pub stop-requires : goal.stop-requires
stop-requires g c =
    let names = c.args.names.now in
    let items = c.stops_of-froms.result.now in
    let known : All (λ s. s < length names.stops) items =
    subst (λ l. All (λ s. s < length names.stops) l) (sym c.stops_of-froms.ensures)
    c.in-Some.ensures.known in
    subst (λ x. x < length names.stops) (sym c.source-item.is) (known c.loop-source.source-index c.source-item.result c.loop-source-test.true)

pub returns-in_default-patterns : goal.returns-in_default-patterns
returns-in_default-patterns g c =
    let items = c.stops_of-froms.result.now in
    let froms = place_is c.args.names.now c.args.from.now c.in-Some.start c.in-Some.ensures.value ∙ ap (λ (l : List ℕ). Some l) (sym c.stops_of-froms.ensures) in (
      (stops_in c.in-Some-place.end, place_is c.args.names.now c.args.to.now c.in-Some-place.end c.in-Some-place.ensures.value),
      subst (λ (t : Table). c.args.depart ≤ t.horizon) c.timetable.ensures.value (c.covers.ensures.0 c.if-not-covers.false),
      items,
      c.source-item.result,
      froms,
      record {
        index = c.loop-source.source-index;
        within = c.loop-source-test.true;
        here = sym c.source-item.is;
        missing = sym c.in_default-patterns.ensures.value;
        before = c.loop-source.invariant.stored;
      },
      c.stop.ensures,
    )

pub loop-source-preserved : goal.loop-source-preserved
loop-source-preserved g c =
    let held : Held = g.T.Trees.held c.args.trees.now in
    let items = c.stops_of-froms.result.now in
    let tos = c.stops_of-tos.result.now in
    let i = c.loop-source.source-index in
    let s = c.source-item.result in
    let tree : Content = c.in-Some-patterns.patterns.now in
    let holds : held s ≡ Some tree = sym c.in-Some-patterns.ensures.value in
    let source : tree.source ≡ s = c.in-Some-patterns.ensures.source in
    let second : AddsAsked c.args.network.now (IsTo tree tos) c.args.depart c.loop-source.best c.search_to.new.best = c.search_to.ensures in
    record {
      stored = stored_more held items i s tree c.loop-source-test.true c.source-item.is holds source c.loop-source.invariant.stored;
      added = source_more c.args.network.now c.args.depart held items tos i s tree c.new-best.result c.loop-source.best c.search_to.new.best
          c.loop-source-test.true c.source-item.is holds source c.loop-source.invariant.added second;
    }

pub leave_last-requires-clause-each : goal.leave_last-requires-clause-each
leave_last-requires-clause-each g c =
    let table = c.args.network.now in
    let held : Held = g.T.Trees.held c.args.trees.now in
    let items = c.stops_of-froms.result.now in
    let n = c.loop-source.source-index in
    found_journeys table c.args.depart held (take n items) c.stops_of-tos.result.now c.new-best.result c.loop-source.best c.new-best.ensures c.loop-source.invariant.added

pub leave_last-requires-clause-searched : goal.leave_last-requires-clause-searched
leave_last-requires-clause-searched g c =
    let table = c.args.network.now in
    let held : Held = g.T.Trees.held c.args.trees.now in
    let items = c.stops_of-froms.result.now in
    let tos = c.stops_of-tos.result.now in
    let all : take c.loop-source.source-index items ≡ items = take_all c.loop-source.source-index items c.loop-source-test.false in
    let added : AddsAsked table (IsAsked held items tos) c.args.depart c.new-best.result c.loop-source.best =
    subst (λ l. AddsAsked table (IsAsked held l tos) c.args.depart c.new-best.result c.loop-source.best) all c.loop-source.invariant.added in
    λ tree t asked legs z j. added.least tree t legs z asked j

pub returns : goal.returns
returns g c =
    let table = c.args.network.now in
    let held : Held = g.T.Trees.held c.args.trees.now in
    let items = c.stops_of-froms.result.now in
    let tos = c.stops_of-tos.result.now in
    let all : take c.loop-source.source-index items ≡ items = take_all c.loop-source.source-index items c.loop-source-test.false in
    let stored : All (IsStored held) items = subst (λ l. All (IsStored held) l) all c.loop-source.invariant.stored in
    let added : AddsAsked table (IsAsked held items tos) c.args.depart c.new-best.result c.loop-source.best =
    subst (λ l. AddsAsked table (IsAsked held l tos) c.args.depart c.new-best.result c.loop-source.best) all c.loop-source.invariant.added in
    let leaves : LeaveLast table (IsAskedPoint table held items tos c.args.depart) c.loop-source.best c.leave_last.new.best = c.leave_last.ensures in
    let still = asked_still table c.args.depart held items tos c.new-best.result c.loop-source.best c.leave_last.new.best c.new-best.ensures added leaves in
    let points = points_are table held items tos c.args.depart c.new-best.result c.leave_last.new.best c.answer.result c.new-best.ensures still c.answer.ensures in
    let best = best_are table held items tos c.args.depart c.new-best.result c.leave_last.new.best c.answer.result c.new-best.ensures still c.answer.ensures in
    let last = chosen_last table (IsAskedPoint table held items tos c.args.depart) c.loop-source.best c.leave_last.new.best c.answer.result leaves c.answer.ensures in
    record {
      froms = items;
      tos = tos;
      leaves = place_is c.args.names.now c.args.from.now c.in-Some.start c.in-Some.ensures.value ∙ ap (λ (l : List ℕ). Some l) (sym c.stops_of-froms.ensures);
      arrives = place_is c.args.names.now c.args.to.now c.in-Some-place.end c.in-Some-place.ensures.value ∙ ap (λ (l : List ℕ). Some l) (sym c.stops_of-tos.ensures);
      covered = subst (λ (t : Table). c.args.depart ≤ t.horizon) c.timetable.ensures.value (c.covers.ensures.0 c.if-not-covers.false);
      stored = stored;
      points_are = points;
      best = best;
      exact = λ k complete. exact_are table held items tos c.args.depart stored k complete (map numbers c.answer.result) best;
      last = last;
      latest = λ k complete.
          latest_are table held items tos c.args.depart stored k complete c.answer.result points
          (exact_are table held items tos c.args.depart stored k complete (map numbers c.answer.result) best) last;
    }
