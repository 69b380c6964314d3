use Rattle.std.proofs.Common.{◌≡◌, ◌≤◌, count_by}
use Rattle.std.specs.List.{range_with_len}
use Rattle.stop_parts.specs.Parts.{is_of}
use Rattle.stop_parts.proofs.part.Part.among.Given as goal

abbrev pub invariant-loop-stop : goal.invariant-loop-stop
invariant-loop-stop l = record {
  count : l.count ≡ count_by (is_of l.self) (range_with_len 0 l.stop);
  few : l.count ≤ l.stop;
}
