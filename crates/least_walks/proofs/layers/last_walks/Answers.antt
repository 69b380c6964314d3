use Rattle.std.proofs.Common.{◌≡◌, ℕ, List, [], ap, subst, arith}
use Rattle.timetable.specs.Table.{stops_of}
use Rattle.least_walks.specs.Ways.{WayData, Gathers, WalksTo}
use Rattle.least_walks.proofs.RowFacts.{AreRows, rows_more}
use Rattle.least_walks.proofs.LayerFacts.{first_ways}
use Rattle.least_walks.proofs.layers.last_walks.Goals as goal

pub loop-number-preserved : goal.loop-number-preserved
loop-number-preserved c =
    let T = c.args.network.now in
    let row = c.in_ok-last_walk.field-0 in
    rows_more (λ (p : ℕ) (ways : List WayData). Gathers (WalksTo T p c.args.to c.args.by) 0 c.args.bound [] ways) c.loop-number.number c.loop-number.rows.items c.push.new.self.items
    row c.in_ok-push.ensures.items
    (subst (λ (p : ℕ). Gathers (WalksTo T p c.args.to c.args.by) 0 c.args.bound [] row) c.new-stop.ensures c.in_ok-last_walk.ensures)
    c.loop-number.invariant

pub returns : goal.returns
returns c =
    let T = c.args.network.now in
    let all = subst (λ (k : ℕ). AreRows (λ (p : ℕ) (ways : List WayData). Gathers (WalksTo T p c.args.to c.args.by) 0 c.args.bound [] ways) k c.loop-number.rows.items)
    (let size = c.stops-stops.ensures.value in let table = ap stops_of c.timetable.ensures.value in let k : c.loop-number.number ≡ stops_of T = omega (arith, size, table) in k) c.loop-number.invariant in
    λ s d i. first_ways T c.args.to c.args.by c.args.bound c.loop-number.rows.items all s d i
