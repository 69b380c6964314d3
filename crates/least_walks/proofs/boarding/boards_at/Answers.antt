use Rattle.std.proofs.Common.{◌≡◌, List, get_or, length, ◌∙◌, ap, arith}
use Rattle.lines.specs.declared.line.Halt.{Halt}
use Rattle.lines.specs.declared.lines.LinePosition.{LinePosition}
use Rattle.lines.specs.Lines.{LineData, line_at, positions_at}
use Rattle.rounds.proofs.EventSteps.{position_there}
use Rattle.least_walks.proofs.RideFacts.{behind_none, behind_more, behind_all}
use Rattle.least_walks.proofs.boarding.boards_at.Goals as goal

pub loop-at-init : goal.loop-at-init
loop-at-init c = behind_none c.args.network.now c.lines-lines.result.now c.lines-lines.ensures c.args.board c.args.bound c.args.alights.now c.new-ways.result c.new-ways.ensures

pub line-requires : goal.line-requires
line-requires c =
    (position_there c.args.network.now c.lines-lines.result.now c.args.board c.loop-at.at-index c.positions_at-at-items.result.now (record { line = 0; position = 0 })
    c.lines-lines.ensures c.positions_at-at-items.ensures c.loop-at-test.true).0

pub loop-at-preserved : goal.loop-at-preserved
loop-at-preserved c =
    let none : LinePosition = record { line = 0; position = 0 } in
    let lines = c.lines-lines.result.now in
    let items = c.positions_at-at-items.result.now in
    let i = c.loop-at.at-index in
    let at : LinePosition = get_or items i none in
    let is : at ≡ get_or (positions_at lines c.args.board) i none = ap (λ (ps : List LinePosition). get_or ps i none) c.positions_at-at-items.ensures in
    let halts : List Halt = c.halts-halts.result.now in
    let same : halts ≡ (line_at lines at.line).halts = c.halts-halts.ensures.value ∙ ap (λ (x : LineData). x.halts) c.line.ensures in
    behind_more c.args.network.now lines c.lines-lines.ensures c.args.board c.args.bound c.args.alights.now i at none halts c.loop-at.ways
    c.add_line.new.ways (let t = c.loop-at-test.true in let long = ap (length {A = LinePosition}) c.positions_at-at-items.ensures in omega (arith, t, long)) is same
    c.loop-at.invariant c.in_ok-add_line.ensures

pub returns : goal.returns
returns c =
    let long = ap (length {A = LinePosition}) c.positions_at-at-items.ensures in
    behind_all c.args.network.now c.lines-lines.result.now c.lines-lines.ensures c.args.board c.args.bound c.args.alights.now c.loop-at.at-index c.loop-at.ways
    (let f = c.loop-at-test.false in omega (arith, long, f)) c.loop-at.invariant
