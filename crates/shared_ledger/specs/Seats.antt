-- The seats at a shared ledger.
use Rattle.std.specs.Prelude.{ℕ, List, map}
use Rattle.std.specs.List.{range_with_len}
use Rattle.shared_ledger.specs.declared.seat.Seat.{Seat}

abbrev pub seat : ℕ → Seat
seat number = record { number = number }

-- the seats of the numbers below n, in order
abbrev pub all_seats : ℕ → List Seat
all_seats n = map seat (range_with_len 0 n)
