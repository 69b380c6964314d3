use Rattle.std.proofs.Common.{◌≡◌, ◌≤◌, ◌-◌, length, drop}
use Rattle.gtfs_text.specs.Sheets.{without_front_spaces}
use Rattle.gtfs_text.proofs.spaces.without_front.Given as goal

abbrev pub invariant-loop-start : goal.invariant-loop-start
invariant-loop-start l = record {
  within : l.start ≤ length l.text;
  same : without_front_spaces (drop l.start l.text) ≡ without_front_spaces l.text;
}

abbrev pub decreases-loop-start : goal.decreases-loop-start
decreases-loop-start l = length l.text - l.start
