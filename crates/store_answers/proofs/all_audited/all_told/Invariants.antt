use Rattle.std.proofs.Common.{take}
use Rattle.std.specs.List.{AllZip}
use Rattle.store_answers.specs.Lines.{TellsOne}
use Rattle.store_answers.proofs.all_audited.all_told.Given as goal

abbrev pub invariant-loop-audit : goal.invariant-loop-audit
invariant-loop-audit l = AllZip (TellsOne l.basis) (take l.audit-index l.audits) l.all.items
