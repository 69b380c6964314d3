use Rattle.std.proofs.Common.{◌∙◌, ◌∷◌, ◌++◌, [], List, ap, append_assoc}
use Rattle.store_audit.specs.Hands.{IsAuditOf}
use Rattle.store_audit.specs.declared.due.TreeAudit.{TreeAudit}
use Rattle.store_audit.proofs.ListFacts.{zip_more}
use Rattle.store_audit.proofs.batch.gather.Goals as goal

pub loop-one-preserved : goal.loop-one-preserved
loop-one-preserved c =
    let old : List TreeAudit = c.args.done.now.items in
    let so_far = c.loop-one.invariant in
    record {
      audits = so_far.audits ++ c.in-Some.audit ∷ [];
      are = c.in_ok-push.ensures.items ∙ ap (λ (l : List TreeAudit). l ++ c.in-Some.audit ∷ []) so_far.are
          ∙ append_assoc old so_far.audits (c.in-Some.audit ∷ []);
      of = zip_more IsAuditOf c.args.due.now so_far.audits c.loop-one.one-index c.one-item.result c.in-Some.audit c.loop-one-test.true
          c.one-item.is so_far.of c.in-Some.ensures;
    }
