use Rattle.std.proofs.Common.{◌≡◌, ◌∙◌, [], List, ap, subst, sym}
use Rattle.section_store.specs.Sections.{form_of}
use Rattle.store_audit.specs.Hands.{AreInHand, joined, waiting_in}
use Rattle.store_audit.specs.declared.due.TreeAudit.{TreeAudit}
use Rattle.store_audit.proofs.HandFacts.{all_done, all_wait, joined_more}
use Rattle.store_audit.proofs.store.audits_of.Goals as goal

pub returns : goal.returns
returns g c = λ trees held.
    let form = form_of c.args.crew.now.network.now c.args.crew.now.rides in
    let whole = c.args.waiting.whole.items in
    let last = c.args.waiting.last in
    let all = joined c.push.new.self.items in
    let are : all ≡ waiting_in whole last.items = ap joined c.in_ok-push.ensures.items ∙ joined_more whole last in
    all_done form trees c.audit_batches.new.done.items (c.in_ok-audit_batches.ensures trees
    (subst (λ (l : List TreeAudit). AreInHand form trees l all) (sym c.new-done.ensures.items)
    (subst (AreInHand form trees []) (sym are) (all_wait form trees (waiting_in whole last.items) held))))
