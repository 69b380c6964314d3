use Rattle.std.proofs.Common.{◌≡◌, ◌≤◌, None, length, filter}
use Rattle.std.specs.Prelude.{is_none}
use Rattle.std.specs.List.{flat_map, filter_map, All}
use Rattle.gtfs_rows.specs.Faults.{first_fault}
use Rattle.gtfs_stops.specs.Stops.{lists_in}
use Rattle.gtfs_stops.specs.Transfers.{IsTransfer}
use Rattle.gtfs_stops.specs.Transfers.{transfer_tests, kept_transfer}
use Rattle.gtfs_stops.proofs.transfers.read_rows.Given as goal

abbrev pub invariant-loop-row : goal.invariant-loop-row
invariant-loop-row l = record {
  passed : first_fault (flat_map (transfer_tests (lists_in l.ids) l.sheet) l.yielded) ≡ None;
  kept : l.transfers.items ≡ filter_map (kept_transfer (lists_in l.ids) l.sheet) l.yielded;
  skipped : l.skipped ≡ length (filter (λ row. is_none (kept_transfer (lists_in l.ids) l.sheet row)) l.yielded);
  few : l.skipped ≤ length l.yielded;
  valid : All (IsTransfer (length l.ids.stops.keys) (length l.ids.stations.keys)) l.transfers.items;
}
