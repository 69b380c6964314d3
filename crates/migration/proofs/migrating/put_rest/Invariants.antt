use Rattle.std.proofs.Common.{◌≡◌, ◌↔◌, ◌≤◌, All, take}
use Rattle.section_store.specs.Between.{GoesBetween}
use Rattle.section_store.specs.Lasting.{IsExact, StaysTrusted}
use Rattle.section_store.specs.Store.{Holds}
use Rattle.section_store.specs.declared.step.Step.TheVariants.{WriteBody}
use Rattle.migration.proofs.migrating.put_rest.Given as goal

abbrev pub invariant-loop-i : goal.invariant-loop-i
invariant-loop-i g l = record {
  from : l.fn.from ≤ l.i;
  honest : g.E.Disk.honest l.fn.store.disk ↔ g.E.Disk.honest l.store.disk;
  ready : l.store.next ≡ WriteBody;
  form : l.store.form ≡ l.fn.store.form;
  failures : g.E.Disk.failures l.store.disk ≡ g.E.Disk.failures l.fn.store.disk;
  holds : g.E.Disk.honest l.fn.store.disk → Holds l.fn.store.form (take l.fn.from l.trees) l.fn.store.place l.fn.store.stored (g.E.Disk.state l.fn.store.disk)
      → Holds l.fn.store.form (take l.i l.trees) l.store.place l.store.stored (g.E.Disk.state l.store.disk);
  goes : g.E.Disk.honest l.fn.store.disk → Holds l.fn.store.form (take l.fn.from l.trees) l.fn.store.place l.fn.store.stored (g.E.Disk.state l.fn.store.disk)
      → GoesBetween l.fn.store.form (take l.fn.from l.trees) (take l.i l.trees) (g.E.Disk.state l.fn.store.disk) (g.E.Disk.state l.store.disk);
  trusted : g.E.Disk.honest l.fn.store.disk → Holds l.fn.store.form (take l.fn.from l.trees) l.fn.store.place l.fn.store.stored (g.E.Disk.state l.fn.store.disk)
      → All (IsExact l.fn.store.form) l.trees → StaysTrusted l.fn.store.form (g.E.Disk.state l.fn.store.disk) (g.E.Disk.state l.store.disk);
}
