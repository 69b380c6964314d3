use Rattle.std.proofs.Common.{◌⊎◌, inl, subst, Result, IfOk, IfErr, List, refl}
use Rattle.std.specs.Global.{Vec}
use Rattle.std.specs.List.{AllZip}
use Rattle.section_store.specs.Sections.{form_of}
use Rattle.recovery.specs.Recovery.{CauseOf, IsLeftAlone, IsOutside, StandsForNoList}
use Rattle.recovery.specs.Opening.{IsOpening}
use Rattle.store_faults.specs.declared.fault.RecoverFault.{RecoverFault}
use Rattle.store_audit.specs.TreeAudits.{AreAuditsOf}
use Rattle.store_audit.specs.declared.due.TreeAudit.{TreeAudit}
use Rattle.store_terms.specs.Stores.{form_over}
use Rattle.store_terms.proofs.OpeningFacts.{over_basis, unopened}
use Rattle.store_answers.specs.Lines.{TellsOne}
use Rattle.store_answers.proofs.AllFacts.{told_all}
use Rattle.store_answers.proofs.all_audited.audit_all.Goals as goal

pub returns-in-Err-clause-audited : goal.returns-in-Err-clause-audited
returns-in-Err-clause-audited g c = λ honest.
    let e = c.audit_store-audits.ensures in
    let old = g.D.Disk.state c.args.disk in
    let new = g.D.Disk.state c.audit_store-audits.result.1 in
    let form = form_of c.in-Ok.network c.args.rides in
    let cause = subst (λ (r : Result (Vec TreeAudit) RecoverFault). IfErr r (CauseOf form old.read)) c.in-Err.is (e.cause honest) in
    let no_list = subst (λ (r : Result (Vec TreeAudit) RecoverFault). IfErr r (λ why. IsOutside why ⊎ StandsForNoList form old.read)) c.in-Err.is (e.refused honest) in
    let alone = subst (λ (r : Result (Vec TreeAudit) RecoverFault). IfErr r (λ why. IsOutside why ⊎ IsLeftAlone old new)) c.in-Err.is (e.alone honest) in
    inl (unopened c.args.basis.now c.args.rides c.in-Ok.network old new c.in-Err.why c.from.result c.in-Ok.ensures cause no_list alone c.from.ensures (e.opening honest))

pub returns-in-Ok-all_told-clause-audited : goal.returns-in-Ok-all_told-clause-audited
returns-in-Ok-all_told-clause-audited g c = λ honest.
    let e = c.audit_store-audits.ensures in
    let basis = c.args.basis.now in
    let k = c.args.rides in
    let old = g.D.Disk.state c.args.disk in
    let new = g.D.Disk.state c.audit_store-audits.result.1 in
    let form = form_of c.in-Ok.network k in
    let are : AreAuditsOf form old.read c.in-Ok-audits.audits.items =
    subst (λ (r : Result (Vec TreeAudit) RecoverFault). IfOk r (λ audits. AreAuditsOf form old.read audits.items)) c.in-Ok-audits.is (e.audited honest) in
    let over : AreAuditsOf (form_over basis k) old.read c.in-Ok-audits.audits.items =
    over_basis (λ f. AreAuditsOf f old.read c.in-Ok-audits.audits.items) basis k c.in-Ok.network c.in-Ok.ensures are in
    let lines = subst (λ (xs : List TreeAudit). AllZip (TellsOne basis) xs c.in-Ok-all_told.all.items) c.deref.ensures.value c.in-Ok-all_told.ensures in
    record {
      trees = over.0;
      stands = over.1;
      audits = c.in-Ok-all_told.all;
      is = refl;
      told = told_all basis k over.0 c.in-Ok-audits.audits.items c.in-Ok-all_told.all.items over.2 lines;
      opening = over_basis (λ f. IsOpening f old new) basis k c.in-Ok.network c.in-Ok.ensures (e.opening honest);
    }
