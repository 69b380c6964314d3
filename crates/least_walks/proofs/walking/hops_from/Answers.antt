use Rattle.std.proofs.Common.{Option, ◌≡◌, ℕ, Bool, List, [], length, unwrap_or, sym, ◌∙◌, ap, subst, arith}
use Rattle.timetable.specs.declared.parts.Walk.{Walk}
use Rattle.std.specs.List.{Contains}
use Rattle.timetable.specs.Table.{Table, IsTable, change, walks_of}
use Rattle.timetable.proofs.Rows.{foot_same}
use Rattle.pattern_query.specs.Way.{hop}
use Rattle.rounds.proofs.WalkSteps.{row_read}
use Rattle.least_walks.specs.Ways.{WayData, Gathers, HopsTo}
use Rattle.least_walks.proofs.HopFacts.{hop_same, among_one, among_nowhere, seen_stay, seen_more, seen_walks}
use Rattle.least_walks.proofs.walking.hops_from.Goals as goal
use Rattle.least_walks.proofs.walking.hops_from.Goals.{then-ridden, else-ridden, in-Some+in_ok-add_hops, in_default}

pub loop-walk-init : goal.loop-walk-init
loop-walk-init c =
    let T = c.args.network.now in
    let ridden = c.args.ridden in
    let p = c.args.from in
    let stays : hop T ridden p p ≡ c.if-ridden.stay =
    elim c.if-ridden.branch [
      | then-ridden w ↦
          ap (λ (r : Bool). hop T r p p) w.if-ridden.true ∙ ((hop_same T p).0 ∙ (ap (λ (t : Table). change t p) (sym c.timetable-table.ensures.value)
          ∙ (sym w.change-stay.ensures.value ∙ sym w.stay-is)))
      | else-ridden w ↦ ap (λ (r : Bool). hop T r p p) w.if-ridden.false ∙ ((hop_same T p).1 ∙ sym w.stay-is)
    ] in
    let first = c.new-ways.ensures in
    elim c.match-stay.branch [
      | in-Some+in_ok-add_hops w ↦
          rw w.ways-is (seen_stay T ridden p c.args.since c.args.bound c.args.boards.now [] w.add_hops.new.ways
          (among_one T ridden p c.args.since c.args.bound c.args.boards.now p w.in-Some.seconds 0 w.row_at.result.now [] w.add_hops.new.ways
          (stays ∙ w.in-Some.is) (ap (λ (o : Option ℕ). unwrap_or o 0) (foot_same T p)) w.row_at.ensures
          (subst (λ (ws : List WayData). Gathers (HopsTo w.in-Some.seconds 0 (Contains w.row_at.result.now)) c.args.since c.args.bound ws w.add_hops.new.ways) first w.in_ok-add_hops.ensures)))
      | in_default w ↦
          rw (w.ways-is, first) (seen_stay T ridden p c.args.since c.args.bound c.args.boards.now [] []
          (among_nowhere T ridden p c.args.since c.args.bound c.args.boards.now p [] (stays ∙ w.in_default.is)))
    ]

pub loop-walk-preserved : goal.loop-walk-preserved
loop-walk-preserved c =
    let T = c.args.network.now in
    let p = c.args.from in
    let i = c.loop-walk.walk-index in
    let valid = subst IsTable c.timetable-table.ensures.value c.walks_from-walk-items.ensures.valid in
    let row = c.walks_from-walk-items.ensures.value ∙ ap (λ (t : Table). walks_of t p) c.timetable-table.ensures.value in
    let here = row_read T p c.walks_from-walk-items.result.now i c.walk-item.result row c.loop-walk-test.true c.walk-item.is in
    seen_more T c.args.ridden p c.args.since c.args.bound c.args.boards.now valid c.requires.from i c.walk-item.result c.row_at-row.result.now
    [] c.loop-walk.ways c.add_hops-in-loop-walk.new.ways here c.row_at-row.ensures c.loop-walk.invariant c.in_ok-add_hops-2.ensures

pub returns : goal.returns
returns c =
    let T = c.args.network.now in
    let p = c.args.from in
    let valid = subst IsTable c.timetable-table.ensures.value c.walks_from-walk-items.ensures.valid in
    let long = ap (length {A = Walk}) (c.walks_from-walk-items.ensures.value ∙ ap (λ (t : Table). walks_of t p) c.timetable-table.ensures.value) in
    seen_walks T c.args.ridden p c.args.since c.args.bound c.args.boards.now valid c.requires.from c.loop-walk.walk-index [] c.loop-walk.ways
    (let f = c.loop-walk-test.false in omega (arith, long, f)) c.loop-walk.invariant
