use Rattle.std.proofs.Common.{◌≡◌, ◌+◌, ◌-◌, ◌≤◌}
use Rattle.disk_model.specs.CrashImage.{image_of}
use Rattle.disk_model.specs.Crash.{open_count}
use Rattle.disk_model.proofs.image.CrashImage.open_bytes.Given as goal

abbrev pub invariant-loop-place : goal.invariant-loop-place
invariant-loop-place l = record {
  few : l.open ≤ l.place;
  counted : l.open + open_count (image_of l.self) l.place (l.len - l.place) ≡ open_count (image_of l.self) 0 l.len;
}
