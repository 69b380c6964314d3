use Rattle.std.proofs.Common.{◌≡◌, map}
use Rattle.std.specs.List.{range_with_len}
use Rattle.gtfs_calls.specs.Times.{times_at}
use Rattle.gtfs_calls.proofs.times.put_written.Given as goal

abbrev pub invariant-loop-call : goal.invariant-loop-call
invariant-loop-call l = l.times.items ≡ map (times_at l.calls) (range_with_len 0 l.call-index)
