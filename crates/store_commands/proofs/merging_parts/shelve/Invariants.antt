use Rattle.std.proofs.Common.{take}
use Rattle.store_terms.specs.Stores.{form_over}
use Rattle.store_commands.specs.Merged.{AreShelved}
use Rattle.store_files.specs.Disks.{disks_of}
use Rattle.store_commands.proofs.merging_parts.shelve.Given as goal

abbrev pub invariant-loop-number : goal.invariant-loop-number
invariant-loop-number g l =
    AreShelved (disks_of (g.D.Disks.opens l.on.disks.now) g.D.Store.Disk.honest g.D.Store.Disk.state g.D.Store.Disk.failures)
    (form_over l.file.basis.now l.file.rides) (take l.number l.paths) l.shelf
