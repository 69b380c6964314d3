use Rattle.std.proofs.Common.{◌<◌, ◌≤◌, length, slice_get, get_or, arith, sym, ◌∙◌, ap, subst}
use Rattle.std.proofs.lemmas.Option.{slice_get_within}
use Rattle.timetable.specs.Journeys.{foot}
use Rattle.lines.specs.declared.lines.LinePosition.{LinePosition}
use Rattle.lines.specs.Lines.{LineData, IsLine, positions_at}
use Rattle.stop_events.specs.Events.{IsAt, Gathered}
use Rattle.stop_events.proofs.EventSteps.{position_there, positions_more, gathered_positions}
use Rattle.stop_events.proofs.events.gather_at.Goals as goal

pub line-line-requires : goal.line-line-requires
line-line-requires c =
    (position_there c.args.table.now c.args.lines.now c.args.stop c.loop-at.at-index c.positions_at-at-items.result.now (record { line = 0; position = 0 }) c.requires.lines c.positions_at-at-items.ensures c.loop-at-test.true).0

pub gather-requires-clause-line : goal.gather-requires-clause-line
gather-requires-clause-line c =
    let here = position_there c.args.table.now c.args.lines.now c.args.stop c.loop-at.at-index c.positions_at-at-items.result.now (record { line = 0; position = 0 }) c.requires.lines c.positions_at-at-items.ensures c.loop-at-test.true in
    subst (λ (x : LineData). IsLine c.args.table.now x) (sym c.line-line.ensures) here.1

pub gather-requires-clause-position : goal.gather-requires-clause-position
gather-requires-clause-position c =
    let position : LinePosition = get_or c.positions_at-at-items.result.now c.loop-at.at-index (record { line = 0; position = 0 }) in
    let here = position_there c.args.table.now c.args.lines.now c.args.stop c.loop-at.at-index c.positions_at-at-items.result.now (record { line = 0; position = 0 }) c.requires.lines c.positions_at-at-items.ensures c.loop-at-test.true in
    subst (λ (x : LineData). position.position < length x.halts) (sym c.line-line.ensures) (slice_get_within _ _ here.2.0 here.2.1)

pub loop-at-preserved : goal.loop-at-preserved
loop-at-preserved c = λ s way.
    let T = c.args.table.now in
    let k = c.loop-at.at-index in
    let position : LinePosition = get_or c.positions_at-at-items.result.now k (record { line = 0; position = 0 }) in
    let here = position_there T c.args.lines.now c.args.stop k c.positions_at-at-items.result.now (record { line = 0; position = 0 }) c.requires.lines c.positions_at-at-items.ensures c.loop-at-test.true in
    positions_more T c.args.lines.now s c.args.stop k position c.args.moments.now.items c.loop-at.moments.items c.gather.new.moments.items here.3 (c.loop-at.invariant s way)
    (subst (λ (x : LineData). Gathered T s (IsAt x position.position) c.loop-at.moments.items c.gather.new.moments.items) c.line-line.ensures
    (c.in_ok-gather.ensures s here.2.0 (ap (λ (x : LineData). slice_get x.halts position.position) c.line-line.ensures ∙ here.2.1) (ap (λ q. foot T s q) here.2.2 ∙ way)))

pub returns : goal.returns
returns c = λ s way.
    gathered_positions c.args.table.now c.args.lines.now s c.args.stop c.loop-at.at-index c.args.moments.now.items c.loop-at.moments.items c.requires.lines
    (let e = ap (length {A = LinePosition}) c.positions_at-at-items.ensures in let k : length (positions_at c.args.lines.now c.args.stop) ≤ c.loop-at.at-index = omega (arith, e, c.loop-at-test.false) in k)
    (c.loop-at.invariant s way)
