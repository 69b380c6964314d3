use Rattle.std.proofs.Common.{◌≢◌, rules, arith}
use Rattle.travel_matrix.proofs.CellFacts.{none_at}
use Rattle.travel_matrix.proofs.row.cell_of.Goals as goal

pub returns-else-number : goal.returns-else-number
returns-else-number c =
    let x = c.in_ok-times.times.now in
    let at = c.count_before.result in
    let own = c.number.ensures.value in
    let looked = c.number-2.ensures.value in
    let other : x.stop ≢ c.args.goal = (λ same. omega (arith, same, own, looked)) in
    none_at c.args.list.now c.args.goal at c.requires c.count_before.ensures.before x (search rules) (search rules) (search rules) other
