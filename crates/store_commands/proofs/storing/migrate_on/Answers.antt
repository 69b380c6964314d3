use Rattle.std.proofs.Common.{Err, ap, refl, sym, subst, inl, inr}
use Rattle.disk_model.specs.Disk.{Grew}
use Rattle.store_migration.specs.Migrations.{IsTakenOver, IsUntaken, TellsOldDevice}
use Rattle.store_terms.specs.Stores.{OnlyFailing, form_over}
use Rattle.store_files.specs.Disks.{disks_of}
use Rattle.store_files.proofs.FileFacts.{kept_out_fails}
use Rattle.feed_commands.proofs.FoundFacts.{report_found, report_refused}
use Rattle.store_commands.proofs.storing.migrate_on.Goals as goal

pub returns-in-Err-clause-found : goal.returns-in-Err-clause-found
returns-in-Err-clause-found g c = λ honest. inl (record {
  fault = c.in-Err.fault;
  disk = c.in-Err.field-0-1;
  kept_out = c.in-Err.ensures.kept_out;
  told = ap Err c.in_migration.ensures;
  untouched = refl;
})

pub returns-in-Err-clause-device : goal.returns-in-Err-clause-device
returns-in-Err-clause-device g c =
    let v = disks_of (g.D.Disks.opens c.args.on.now.disks.now) g.D.Store.Disk.honest g.D.Store.Disk.state g.D.Store.Disk.failures in
    let failures = g.D.Store.Disk.failures c.args.disk in
    subst (OnlyFailing failures failures) (sym c.in_migration.ensures)
    (kept_out_fails failures failures v (form_over c.args.file.now.basis.now c.args.file.now.rides) c.args.old.now c.in-Err.fault c.in-Err.field-0-1
    c.in-Err.ensures.kept_out)

pub returns-clause-found : goal.returns-clause-found
returns-clause-found g c = λ honest.
    let basis = c.args.file.now.basis.now in
    let k = c.args.file.now.rides in
    let state = g.D.Store.Disk.state in
    let failures = g.D.Store.Disk.failures in
    let first = c.in-Ok.ready.disk in
    let last = c.take_over-report.result.1 in
    let report = c.take_over-report.result.0 in
    let new = state c.take_over-report.result.2 in
    inr (record {
      first = first;
      last = last;
      is_new = c.in-Ok.ready.is_new;
      ready = c.in-Ok.ensures.ready;
      honest = c.take_over-report.ensures.honest;
      left = c.take_over-report.ensures.left;
      right = λ honest_old. report_found report c.found_report.result (IsTakenOver basis k (state first) (state last) (state c.args.disk) new)
          (IsUntaken basis k (state first) (state last) (state c.args.disk) new) c.found_report.ensures (c.take_over-report.ensures.taken honest_old honest);
      device = report_refused report c.found_report.result (λ fault. TellsOldDevice fault → Grew (failures first) (failures last)) c.found_report.ensures
          c.take_over-report.ensures.old_device;
    })
