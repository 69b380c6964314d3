-- The audits of all stored trees, reported in their order.
use Rattle.std.proofs.Common.{ℕ, List, [], ◌∷◌, slice_index_or, subst}
use Rattle.std.specs.List.{AllZip}
use Rattle.pattern_tree.specs.Content.{Content}
use Rattle.answer_lines.specs.declared.audit.Audit.{Audit}
use Rattle.feed_basis.specs.Basis.{BasisData}
use Rattle.store_audit.specs.TreeAudits.{IsTreeAudit}
use Rattle.store_audit.specs.declared.due.TreeAudit.{TreeAudit}
use Rattle.store_answers.specs.Audited.{TellsAudit, TellsStored}
use Rattle.store_answers.specs.Lines.{TellsOne}
use Rattle.store_terms.specs.Stores.{form_over}

-- what is reported of the audits is reported of their trees
pub told_all : (basis : BasisData) (k : ℕ) (trees : List Content) (audits : List TreeAudit) (lines : List Audit)
    → AllZip (IsTreeAudit (form_over basis k)) trees audits → AllZip (TellsOne basis) audits lines → AllZip (TellsStored basis k) trees lines
told_all basis k [] [] [] are told = tt
told_all basis k [] [] (line ∷ lines) are told = absurd told
told_all basis k [] (audit ∷ audits) lines are told = absurd are
told_all basis k (tree ∷ trees) [] lines are told = absurd are
told_all basis k (tree ∷ trees) (audit ∷ audits) [] are told = absurd told
told_all basis k (tree ∷ trees) (audit ∷ audits) (line ∷ lines) are told = (
  record {
    difference = audit.difference;
    first = are.0.first;
    told = subst (λ (s : ℕ). TellsAudit basis (slice_index_or basis.names.stops s []) audit.difference line) are.0.source told.0;
  },
  told_all basis k trees audits lines are.1 told.1,
)
