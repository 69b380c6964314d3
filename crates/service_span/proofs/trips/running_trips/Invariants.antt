use Rattle.std.proofs.Common.{◌≡◌, ◌≤◌, [], false, take, count_by, slice_index_or}
use Rattle.service_span.proofs.trips.running_trips.Given as goal

abbrev pub invariant-loop-trip : goal.invariant-loop-trip
invariant-loop-trip l = record {
  counted : l.count ≡ count_by (λ trip. slice_index_or (slice_index_or l.running trip.service []) l.day false) (take l.trip-index l.trips);
  few : l.count ≤ l.trip-index;
}
