use Rattle.std.proofs.Common.{ℕ, List, IfErr, map, refl, subst, inl, inr}
use Rattle.faults.specs.declared.fault.Fault.{Fault}
use Rattle.store_terms.specs.Counts.{ReportsBuilt}
use Rattle.store_merging.specs.Merges.{IsMerged, OnlyFailing as PartsOnlyFailing}
use Rattle.store_merging.specs.Telling.{IsOfMerge, IsToldUnmerged}
use Rattle.store_merging.specs.declared.fault.UnmergedFault.{UnmergedFault}
use Rattle.store_commands.specs.Merged.{joined}
use Rattle.store_files.specs.Disks.{disks_of}
use Rattle.feed_commands.proofs.FoundFacts.{report_found, report_refused}
use Rattle.store_commands.proofs.PartFacts.{unshelved_fails}
use Rattle.store_commands.proofs.merging_parts.merge_on.Goals as goal

pub returns-in-Err-clause-found : goal.returns-in-Err-clause-found
returns-in-Err-clause-found g c = λ honest. inl (record {
  fault = c.in-Err.fault;
  told = refl;
  why = c.in-Err.ensures;
  untouched = refl;
})

pub returns-in-Err-clause-device : goal.returns-in-Err-clause-device
returns-in-Err-clause-device g c =
    let v = disks_of (g.D.Disks.opens c.args.on.now.disks.now) g.D.Store.Disk.honest g.D.Store.Disk.state g.D.Store.Disk.failures in
    let failures = g.D.Store.Disk.failures c.args.disk in
    unshelved_fails failures failures v c.args.file.now.basis.now c.args.file.now.rides c.args.paths.now c.in-Err.fault c.in-Err.ensures

pub returns-in-Ok-clause-found : goal.returns-in-Ok-clause-found
returns-in-Ok-clause-found g c = λ honest.
    let basis = c.args.file.now.basis.now in
    let k = c.args.file.now.rides in
    let paths = c.args.paths.now in
    let failures = g.D.Store.Disk.failures in
    let old = g.D.Store.Disk.state c.args.disk in
    let new = g.D.Store.Disk.state c.put_together-report.result.1 in
    let report = c.put_together-report.result.0 in
    let shelved = c.in-Ok.ensures in
    let after = map failures c.put_together-report.new.shelf.disks.items in
    inr (record {
      disks = shelved.disks;
      opened = shelved.opened;
      right = λ all.
          let was = shelved.has all in
          record {
            states = was.states;
            lists = was.lists;
            read = was.read;
            holds = report_found report c.found_report.result (ReportsBuilt (IsMerged basis k (joined was.lists) old new))
                (IsToldUnmerged basis k paths (joined was.lists) old new) c.found_report.ensures
                (c.put_together-report.ensures.merged was.states (joined was.lists) honest was.holds);
          };
      failed = after;
      device = report_refused report c.found_report.result
          (λ (fault : Fault). (why : UnmergedFault) × IsOfMerge paths why fault × PartsOnlyFailing (map failures shelved.disks) after why) c.found_report.ensures
          (subst (λ (l : List ℕ). IfErr report (λ (fault : Fault). (why : UnmergedFault) × IsOfMerge paths why fault × PartsOnlyFailing l after why)) shelved.failed
          c.put_together-report.ensures.part_device);
    })
