use Rattle.std.proofs.Common.{◌≡◌, ℕ, List, [], ap, arith, length, subst}
use Rattle.timetable.specs.Table.{stops_of}
use Rattle.least_walks.specs.Ways.{WayData, Gathers, RidesAmong, Anywhere}
use Rattle.least_walks.proofs.RowFacts.{AreRows, rows_more, rows_none}
use Rattle.least_walks.proofs.boarding.boards_of.Goals as goal

pub loop-number-preserved : goal.loop-number-preserved
loop-number-preserved c =
    let T = c.args.network.now in
    let row = c.in_ok-boards_at.field-0 in
    rows_more (λ (b : ℕ) (ways : List WayData). Gathers (RidesAmong T b Anywhere c.args.alights.now) 0 c.args.bound [] ways) c.loop-number.number c.loop-number.rows.items c.push.new.self.items
    row c.in_ok-push.ensures.items
    (subst (λ (b : ℕ). Gathers (RidesAmong T b Anywhere c.args.alights.now) 0 c.args.bound [] row) c.new-stop.ensures c.in_ok-boards_at.ensures)
    c.loop-number.invariant

pub loop-number-init : goal.loop-number-init
loop-number-init c = rows_none _ c.in_ok-rows.rows.items (ap (length {A = List WayData}) c.in_ok-rows.ensures.items)

pub returns-clause-boards : goal.returns-clause-boards
returns-clause-boards c =
    let T = c.args.network.now in
    let all = subst (λ (k : ℕ). AreRows (λ (b : ℕ) (ways : List WayData). Gathers (RidesAmong T b Anywhere c.args.alights.now) 0 c.args.bound [] ways) k c.loop-number.rows.items)
    (let size = c.stops-stops.ensures.value in let table = ap stops_of c.timetable.ensures.value in let k : c.loop-number.number ≡ stops_of T = omega (arith, size, table) in k) c.loop-number.invariant in
    record { size = all.size; each = all.each }
