use Rattle.std.proofs.Common.{◌≡◌, ◌↔◌, ◌≤◌, length}
use Rattle.disk_model.proofs.Stretches.{IsRead}
use Rattle.disk_model.proofs.calls.read_up_to.Given as goal

abbrev pub invariant-loop : goal.invariant-loop
invariant-loop g l = record {
  honest : g.D.Disk.honest l.initial.disk ↔ g.D.Disk.honest l.disk;
  same : g.D.Disk.honest l.initial.disk → g.D.Disk.state l.disk ≡ g.D.Disk.state l.initial.disk;
  read : g.D.Disk.honest l.initial.disk → IsRead (g.D.Disk.state l.initial.disk).read l.pos l.out.items;
  failures : g.D.Disk.failures l.disk ≡ g.D.Disk.failures l.initial.disk;
  within : length l.out.items ≤ l.count;
  turns : l.counter ≤ length l.out.items;
}
