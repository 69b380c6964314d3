-- What the calls of a disk in memory leave.
use Rattle.std.specs.Prelude.{List, [], ◌∷◌, length}
use Rattle.disk_model.specs.Image.{with_write, with_cut}
use Rattle.disk_model.specs.Disk.{State, empty_disk, next_state, after_write, after_cut, after_sync}
use Rattle.disk_model.specs.Crash.{after_crash}
use Rattle.disk_model.specs.declared.memory.Call.{Call}
use Rattle.disk_model.specs.declared.memory.Call.TheVariants.{Written, TornWrite, Cut, TornCut, Synced, Crashed}

-- what one call does; one that failed has left what reads give as it was
unfoldable pub step : Call → State → State
step (Written at bytes) disk = after_write at bytes.items disk
step (TornWrite at bytes) disk = next_state disk.read (with_write at (length bytes.items) disk.now) disk
step (Cut len) disk = after_cut len disk
step (TornCut len) disk = next_state disk.read (with_cut len disk.now) disk
step Synced disk = after_sync disk
step (Crashed bytes) disk = after_crash bytes.items disk

-- the calls one after the other, the first of them first
unfoldable pub replay : List Call → State → State
replay [] disk = disk
replay (call ∷ calls) disk = replay calls (step call disk)

-- what these calls make of an empty disk
unfoldable pub state_after : List Call → State
state_after calls = replay calls empty_disk
