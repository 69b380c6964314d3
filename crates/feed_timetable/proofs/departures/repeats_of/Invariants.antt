use Rattle.std.proofs.Common.{◌≡◌, ℕ, length, take, ◌==◌}
use Rattle.std.specs.List.{filter}
use Rattle.feed_ids.specs.Groups.{group}
use Rattle.feed_timetable.proofs.departures.repeats_of.Given as goal

abbrev pub invariant-loop-row : goal.invariant-loop-row
invariant-loop-row l = record {
  count : length l.repeats ≡ length l.tables.trips;
  each : (trip : ℕ) → group l.repeats trip ≡ filter (λ row. trip == row.trip) (take l.row-index l.row-items);
}
