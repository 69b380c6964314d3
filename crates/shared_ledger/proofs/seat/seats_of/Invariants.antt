use Rattle.std.proofs.Common.{◌≡◌, ◌≤◌, vec_len, vec_capacity}
use Rattle.shared_ledger.specs.Seats.{all_seats}
use Rattle.shared_ledger.proofs.seat.seats_of.Given as goal

abbrev pub invariant-loop-number : goal.invariant-loop-number
invariant-loop-number l = (l.list.items ≡ all_seats l.number) × (vec_len l.list ≡ l.number) × (l.seats ≤ vec_capacity l.list)
