use Rattle.std.proofs.Common.{◌≡◌, ◌≤◌, [], length, eqb, arith, ap, subst}
use Rattle.std.proofs.lemmas.List.Filters.{dedup_is}
use Rattle.timetable.specs.declared.parts.Walk.{Walk}
use Rattle.timetable.specs.Table.{walks_of}
use Rattle.timetable.specs.Journeys.{from}
use Rattle.timetable.proofs.Rows.{foot_same}
use Rattle.stop_events.specs.Events.{Gathered}
use Rattle.stop_events.proofs.WalkFacts.{row_read}
use Rattle.stop_events.proofs.EventSteps.{walks_none, walks_more, gathered_walks, way_of, events_are}
use Rattle.stop_events.proofs.events.departures.Goals as goal

pub loop-walk-init : goal.loop-walk-init
loop-walk-init c =
    let T = c.args.table.now in
    let s = c.args.source in
    walks_none T s [] c.gather_at.new.moments.items
    (subst (λ old. Gathered T s (λ leg. from T leg ≡ s) old c.gather_at.new.moments.items) c.new-moments.ensures.items (c.in_ok-gather_at.ensures s (foot_same T s)))

pub loop-walk-preserved : goal.loop-walk-preserved
loop-walk-preserved c =
    let T = c.args.table.now in
    let s = c.args.source in
    let k = c.loop-walk.walk-index in
    let w = c.walk-item.result in
    let here = row_read T s c.walks_from-walks.result.now k w c.walks_from-walks.ensures.value c.loop-walk-test.true c.walk-item.is in
    walks_more T s k w [] c.loop-walk.moments.items c.gather_at-in-loop-walk.new.moments.items here c.loop-walk.invariant
    (c.in_ok-gather_at-2.ensures s (way_of T s k w c.walks_from-walks.ensures.valid c.requires.source here))

pub returns : goal.returns
returns c =
    let T = c.args.table.now in
    events_are T c.args.source c.loop-walk.moments.items c.sort_unstable.new.self.items c.dedup.new.self.items
    (gathered_walks T c.args.source c.loop-walk.walk-index [] c.loop-walk.moments.items
    (let e = ap (length {A = Walk}) c.walks_from-walks.ensures.value in let k : length (walks_of T c.args.source) ≤ c.loop-walk.walk-index = omega (arith, e, c.loop-walk-test.false) in k)
    c.loop-walk.invariant)
    c.sort_unstable.ensures.permutation c.sort_unstable.ensures.sorted
    (dedup_is eqb c.sort_unstable.new.self.items c.dedup.new.self.items c.dedup.ensures.filtered)
