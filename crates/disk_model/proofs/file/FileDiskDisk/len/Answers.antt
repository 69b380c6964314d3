use Rattle.std.proofs.Common.{sym, subst}
use Rattle.file_premise.specs.Premise.{IsGranted, granted_gives}
use Rattle.disk_model.proofs.file.FileDiskDisk.len.Goals as goal

pub returns-in-Ok-clause-length : goal.returns-in-Ok-clause-length
returns-in-Ok-clause-length c = λ honest. granted_gives _ _ honest

pub returns-in-Err-clause-same : goal.returns-in-Err-clause-same
returns-in-Err-clause-same c = λ honest. granted_gives _ _ honest

pub returns-in-Err-clause-honest : goal.returns-in-Err-clause-honest
returns-in-Err-clause-honest c = (
  λ honest. subst (λ f. IsGranted f) (sym c.fault.ensures.file) honest,
  λ honest. subst (λ f. IsGranted f) c.fault.ensures.file honest,
)
