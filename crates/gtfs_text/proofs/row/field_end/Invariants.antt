use Rattle.std.proofs.Common.{◌≡◌, ℕ, ◌<◌, ◌≤◌, ◌-◌, false, get_or, length}
use Rattle.gtfs_text.specs.Lines.{is_comma}
use Rattle.gtfs_text.proofs.row.field_end.Given as goal

abbrev pub invariant-eights : goal.invariant-eights
invariant-eights l = record {
  within : l.at ≤ length l.line;
  before : (k : ℕ) → k < l.at → is_comma (get_or l.line k 0) ≡ false;
}

abbrev pub decreases-eights : goal.decreases-eights
decreases-eights l = length l.line - l.at

abbrev pub invariant-bytes : goal.invariant-bytes
invariant-bytes l = record {
  within : l.at ≤ length l.line;
  before : (k : ℕ) → k < l.at → is_comma (get_or l.line k 0) ≡ false;
}

abbrev pub decreases-bytes : goal.decreases-bytes
decreases-bytes l = length l.line - l.at
