use Rattle.std.proofs.Common.{◌≡◌, ℕ, ap, subst, subst₂, arith, length, List}
use Rattle.timetable.specs.Table.{IsTable, stops_of}
use Rattle.rounds.specs.Mark.{arrival_in}
use Rattle.rounds.specs.Scratch.{rounds_of}
use Rattle.least_walks.specs.Ways.{WayData}
use Rattle.least_walks.proofs.RowFacts.{AreRows, rows_more, rows_none}
use Rattle.least_walks.proofs.LayerFacts.{HopsSince, more_ways}
use Rattle.least_walks.proofs.layers.one_ride_more.Goals as goal

pub returns : goal.returns
returns c = λ s d t by n round are.
    let T = c.args.network.now in
    let rounds = rounds_of c.args.view.now in
    let boards = c.in_ok-boards.boards.items in
    let valid : IsTable T = c.timetable.ensures.valid in
    let all = subst (λ (k : ℕ). AreRows (λ (p : ℕ) (ways : List WayData). HopsSince T c.args.bound boards p (arrival_in rounds c.args.rides p) ways) k c.loop-number.rows.items)
    (let size = c.stops-stops.ensures.value in let table = ap stops_of c.timetable.ensures.value in let k : c.loop-number.number ≡ stops_of T = omega (arith, size, table) in k) c.loop-number.invariant in
    more_ways T valid s d t by c.args.bound c.args.rides n _ rounds c.args.alights.now boards c.loop-number.rows.items round c.requires.some c.requires.rides are c.in_ok-boards.ensures.boards all

pub loop-number-init : goal.loop-number-init
loop-number-init c = rows_none _ c.in_ok-rows.rows.items (ap (length {A = List WayData}) c.in_ok-rows.ensures.items)

pub loop-number-preserved : goal.loop-number-preserved
loop-number-preserved c =
    let rounds = rounds_of c.args.view.now in
    let row = c.in_ok-hops_at.field-0 in
    let Hops = λ (boards : List (List WayData)) (p : ℕ) (ways : List WayData). HopsSince c.args.network.now c.args.bound boards p
    (arrival_in rounds c.args.rides p) ways in
    rows_more (Hops c.in_ok-boards.boards.items) c.loop-number.number c.loop-number.rows.items c.push.new.self.items row c.in_ok-push.ensures.items
    (subst₂ (λ (boards : List (List WayData)) (p : ℕ). Hops boards p row) c.deref.ensures.value c.new-stop.ensures c.in_ok-hops_at.ensures)
    c.loop-number.invariant
