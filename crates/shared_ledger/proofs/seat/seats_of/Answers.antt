use Rattle.std.proofs.Common.{sym, arith}
use Rattle.std.proofs.lemmas.List.FromFn.{map-range_with_len_more}
use Rattle.shared_ledger.specs.Seats.{seat}
use Rattle.shared_ledger.proofs.seat.seats_of.Goals as goal

pub loop-number-preserved : goal.loop-number-preserved
loop-number-preserved c =
    (rw (c.push_reserved.ensures.items, c.loop-number.invariant.0) (sym (map-range_with_len_more seat 0 c.loop-number.number c.loop-number.number (omega arith))), omega (arith, c.push_reserved.ensures.len, c.loop-number.invariant.1), rw c.push_reserved.ensures.capacity c.loop-number.invariant.2)
