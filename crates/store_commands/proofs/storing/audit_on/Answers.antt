use Rattle.store_answers.specs.Audited.{IsAllAudited, IsAudited, IsUnaudited}
use Rattle.store_terms.specs.Stores.{IsUntold}
use Rattle.feed_commands.proofs.FoundFacts.{report_found}
use Rattle.store_commands.proofs.storing.audit_on.Goals as goal

pub returns-in-Stop-clause-found : goal.returns-in-Stop-clause-found
returns-in-Stop-clause-found g c = λ honest.
    let basis = c.args.file.now.basis.now in
    let k = c.args.file.now.rides in
    let from = c.in-Stop.from.now in
    let old = g.D.Store.Disk.state c.args.disk in
    let new = g.D.Store.Disk.state c.audit-report.result.1 in
    rw c.in-Stop.is (report_found c.audit-report.result.0 c.found_report.result (IsAudited basis k from old new) (IsUnaudited basis k from old new)
    c.found_report.ensures (c.audit-report.ensures.audited honest))

pub returns-in-All-clause-found : goal.returns-in-All-clause-found
returns-in-All-clause-found g c = λ honest.
    let basis = c.args.file.now.basis.now in
    let k = c.args.file.now.rides in
    let old = g.D.Store.Disk.state c.args.disk in
    let new = g.D.Store.Disk.state c.audit_all-report.result.1 in
    rw c.in-All.is (report_found c.audit_all-report.result.0 c.found_report-in-All.result (IsAllAudited basis k old new) (IsUntold basis k old new)
    c.found_report-in-All.ensures (c.audit_all-report.ensures.audited honest))
