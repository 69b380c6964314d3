use Rattle.std.proofs.Common.{◌≡◌, ◌+◌, ◌-◌, ◌≤◌, ◌++◌, length, drop}
use Rattle.disk_model.specs.CrashImage.{image_of}
use Rattle.disk_model.specs.Crash.{open_count, filled_bytes}
use Rattle.disk_model.proofs.image.CrashImage.fill.Given as goal

abbrev pub invariant-loop-place : goal.invariant-loop-place
invariant-loop-place l = record {
  enough : l.used + open_count (image_of l.self) l.place (l.len - l.place) ≤ length l.fill;
  made : l.bytes.items ++ filled_bytes (image_of l.self) l.place (l.len - l.place) (drop l.used l.fill) ≡ filled_bytes (image_of l.self) 0 l.len l.fill;
}
