use Rattle.std.proofs.Common.{ap}
use Rattle.disk_model.specs.Disk.{State}
use Rattle.disk_model.specs.CrashImage.{image_of}
use Rattle.disk_model.specs.MemDisk.{state_of}
use Rattle.disk_model.proofs.Filled.{crash_outcome}
use Rattle.disk_model.proofs.memory.MemDisk.crash.Goals as goal

pub returns-in-Ok-clause-outcome : goal.returns-in-Ok-clause-outcome
returns-in-Ok-clause-outcome c =
    let left = rw c.in-Ok-Some.field-0-is at c.in-Ok-Some.ensures in
    crash_outcome (image_of c.args.self.image) (state_of c.args.self).now c.args.len c.args.fill.now c.in-Ok-Some.bytes.items (state_of c.restart.new.self).read
    c.args.self.leaves left.0 left.1 (ap (λ (s : State). s.read) c.in-Ok.ensures.ok)
