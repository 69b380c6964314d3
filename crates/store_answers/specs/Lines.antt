-- How an audit is reported. Only private clauses cite this word.
use Rattle.std.specs.Prelude.{[], slice_index_or}
use Rattle.answer_lines.specs.declared.audit.Audit.{Audit}
use Rattle.feed_basis.specs.Basis.{BasisData}
use Rattle.store_audit.specs.declared.due.TreeAudit.{TreeAudit}
use Rattle.store_answers.specs.Audited.{TellsAudit}

-- the audit of a tree is reported of the tree's stop, by its id
abbrev pub TellsOne : BasisData → TreeAudit → Audit → Type 0
TellsOne basis audit line = TellsAudit basis (slice_index_or basis.names.stops audit.source []) audit.difference line
