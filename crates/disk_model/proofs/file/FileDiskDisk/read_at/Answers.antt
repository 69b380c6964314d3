use Rattle.std.proofs.Common.{sym, subst}
use Rattle.file_premise.specs.Premise.{IsGranted, granted_gives}
use Rattle.disk_model.proofs.file.FileDiskDisk.read_at.Goals as goal

pub returns-in-Ok-clause-bytes : goal.returns-in-Ok-clause-bytes
returns-in-Ok-clause-bytes c = λ honest. granted_gives _ _ honest

pub returns-in-Err-clause-same : goal.returns-in-Err-clause-same
returns-in-Err-clause-same c = λ honest. granted_gives _ _ honest

pub returns-in-Err-clause-honest : goal.returns-in-Err-clause-honest
returns-in-Err-clause-honest c = (
  λ honest. subst (λ f. IsGranted f) (sym c.fault.ensures.file) honest,
  λ honest. subst (λ f. IsGranted f) c.fault.ensures.file honest,
)
