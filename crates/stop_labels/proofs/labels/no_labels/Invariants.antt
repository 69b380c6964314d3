use Rattle.std.proofs.Common.{◌≡◌, length}
use Rattle.stop_labels.proofs.labels.no_labels.Given as goal

abbrev pub invariant-loop : goal.invariant-loop
invariant-loop l = length l.labels.items ≡ l.counter
