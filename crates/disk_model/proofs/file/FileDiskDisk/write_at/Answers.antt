use Rattle.std.proofs.Common.{sym, subst}
use Rattle.file_premise.specs.Premise.{IsGranted, granted_gives}
use Rattle.disk_model.proofs.file.FileDiskDisk.write_at.Goals as goal

pub returns-in-Ok-clause-written : goal.returns-in-Ok-clause-written
returns-in-Ok-clause-written c = λ honest. granted_gives _ _ honest

pub returns-in-Err-clause-written : goal.returns-in-Err-clause-written
returns-in-Err-clause-written c = λ honest. granted_gives _ _ honest

pub returns-in-Err-clause-honest : goal.returns-in-Err-clause-honest
returns-in-Err-clause-honest c = (
  λ honest. subst (λ f. IsGranted f) (sym c.fault.ensures.file) honest,
  λ honest. subst (λ f. IsGranted f) c.fault.ensures.file honest,
)
