use Rattle.std.proofs.Common.{◌≡◌, ◌∙◌, ◌<◌, ◌++◌, ℕ, List, [], length, slice_index_or, ap, ◌∷◌, subst, sym}
use Rattle.std.specs.List.{AllZip}
use Rattle.feed_ids.specs.NameLists.{NameLists}
use Rattle.timetable.specs.Table.{stops_of}
use Rattle.answer_lines.specs.declared.audit.Audit.{Audit}
use Rattle.store_audit.specs.TreeAudits.{IsKnown}
use Rattle.store_audit.specs.declared.due.TreeAudit.{TreeAudit}
use Rattle.store_audit.proofs.ListFacts.{zip_more}
use Rattle.store_answers.specs.Audited.{TellsAudit}
use Rattle.store_answers.specs.Lines.{TellsOne}
use Rattle.store_answers.proofs.all_audited.all_told.Goals as goal

pub stop-from-requires : goal.stop-from-requires
stop-from-requires c =
    let basis = c.args.basis.now in
    let audit : TreeAudit = c.audit-item.result in
    let known : IsKnown (stops_of basis.timetable) audit =
    subst (IsKnown (stops_of basis.timetable)) (sym c.audit-item.is) (c.requires c.loop-audit.audit-index audit c.loop-audit-test.true) in
    subst (λ (n : NameLists). audit.source < length n.stops) (sym c.names.ensures.value)
    (subst (λ (m : ℕ). audit.source < m) (sym c.names.ensures.sound.stops) known.source)

pub told-line-requires : goal.told-line-requires
told-line-requires c =
    let basis = c.args.basis.now in
    let audit : TreeAudit = c.audit-item.result in
    let known : IsKnown (stops_of basis.timetable) audit =
    subst (IsKnown (stops_of basis.timetable)) (sym c.audit-item.is) (c.requires c.loop-audit.audit-index audit c.loop-audit-test.true) in
    known.to

pub loop-audit-preserved : goal.loop-audit-preserved
loop-audit-preserved c =
    let basis = c.args.basis.now in
    let audit : TreeAudit = c.audit-item.result in
    let line : Audit = c.told-line.result in
    let id : c.stop-from.result.now ≡ slice_index_or basis.names.stops audit.source [] =
    c.stop-from.ensures ∙ ap (λ (n : NameLists). slice_index_or n.stops audit.source []) c.names.ensures.value in
    let one : TellsOne basis audit line = subst (λ (from : List ℕ). TellsAudit basis from audit.difference line) id c.told-line.ensures in
    let added : c.extend_from_slice.new.self.items ≡ c.loop-audit.all.items ++ line ∷ [] =
    c.in_ok-extend_from_slice.ensures.items ∙ ap (λ (more : List Audit). c.loop-audit.all.items ++ more) c.from_ref.ensures.value in
    subst (AllZip (TellsOne basis) _) (sym added)
    (zip_more (TellsOne basis) c.args.audits.now c.loop-audit.all.items c.loop-audit.audit-index audit line c.loop-audit-test.true
    c.audit-item.is c.loop-audit.invariant one)
