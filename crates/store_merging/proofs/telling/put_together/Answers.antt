use Rattle.std.proofs.Common.{refl}
use Rattle.store_merging.proofs.TellingFacts.{told_fails}
use Rattle.store_merging.proofs.telling.put_together.Goals as goal

pub returns-in-Ok-clause-merged : goal.returns-in-Ok-clause-merged
returns-in-Ok-clause-merged g c = λ disks all honest has.
    (c.in-Ok.built, refl, rw c.in-Ok.is at (c.merge_parts-merged.ensures.merged disks all honest has))

pub returns-in-Err-clause-merged : goal.returns-in-Err-clause-merged
returns-in-Err-clause-merged g c = λ disks all honest has.
    (c.in-Err.why, rw c.in-Err.is at (c.merge_parts-merged.ensures.merged disks all honest has), c.of_merge.ensures)

pub returns-in-Err-clause-device : goal.returns-in-Err-clause-device
returns-in-Err-clause-device g c =
    told_fails (g.E.Disk.failures c.args.out) (g.E.Disk.failures c.merge_parts-merged.result.1) c.args.paths.now c.in-Err.why c.of_merge.result c.of_merge.ensures
    (rw c.in-Err.is at c.merge_parts-merged.ensures.device)
