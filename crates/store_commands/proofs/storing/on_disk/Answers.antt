use Rattle.store_building.specs.Builds.{IsBuilt, IsUnbuilt}
use Rattle.store_terms.specs.Counts.{ReportsBuilt}
use Rattle.store_answers.specs.Listings.{IsListed}
use Rattle.store_terms.specs.Stores.{IsUntold}
use Rattle.feed_commands.proofs.FoundFacts.{report_found}
use Rattle.store_commands.proofs.storing.on_disk.Goals as goal

pub returns-in-Ask-clause-found : goal.returns-in-Ask-clause-found
returns-in-Ask-clause-found g c = λ honest.
    rw (c.in-Ask.is, ← c.tells_legs-legs.ensures) (c.ask_on.ensures.found honest)

pub returns-in-List-clause-found : goal.returns-in-List-clause-found
returns-in-List-clause-found g c = λ honest.
    let basis = c.args.file.now.basis.now in
    let k = c.args.file.now.rides in
    let old = g.D.Store.Disk.state c.args.disk in
    let new = g.D.Store.Disk.state c.list-report.result.1 in
    rw c.in-List.is (report_found c.list-report.result.0 c.found_report.result (IsListed basis k old new) (IsUntold basis k old new)
    c.found_report.ensures (c.list-report.ensures.listed honest))

pub returns-in-Build-clause-found : goal.returns-in-Build-clause-found
returns-in-Build-clause-found g c = λ honest.
    let basis = c.args.file.now.basis.now in
    let k = c.args.file.now.rides in
    let old = g.D.Store.Disk.state c.args.disk in
    let new = g.D.Store.Disk.state c.build-report.result.1 in
    let part = c.in-Build.part in
    rw c.in-Build.is (report_found c.build-report.result.0 c.found_report-in-Build.result (ReportsBuilt (IsBuilt basis part k old new)) (IsUnbuilt basis part k old new)
    c.found_report-in-Build.ensures (c.build-report.ensures.built honest))

pub returns-in-Audit-clause-found : goal.returns-in-Audit-clause-found
returns-in-Audit-clause-found g c = λ honest. rw c.in-Audit.is (c.audit_on.ensures.found honest)

pub returns-in-Migrate-clause-found : goal.returns-in-Migrate-clause-found
returns-in-Migrate-clause-found g c = λ honest. rw c.in-Migrate.is (c.migrate_on.ensures.found honest)

pub returns-in-Merge-clause-found : goal.returns-in-Merge-clause-found
returns-in-Merge-clause-found g c = λ honest. rw c.in-Merge.is (c.merge_on.ensures.found honest)
