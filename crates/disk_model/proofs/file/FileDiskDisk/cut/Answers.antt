use Rattle.std.proofs.Common.{sym, subst}
use Rattle.file_premise.specs.Premise.{IsGranted, granted_gives}
use Rattle.disk_model.proofs.file.FileDiskDisk.cut.Goals as goal

pub returns-in-Ok-clause-cut : goal.returns-in-Ok-clause-cut
returns-in-Ok-clause-cut c = λ honest. granted_gives _ _ honest

pub returns-in-Err-clause-cut : goal.returns-in-Err-clause-cut
returns-in-Err-clause-cut c = λ honest. granted_gives _ _ honest

pub returns-in-Err-clause-honest : goal.returns-in-Err-clause-honest
returns-in-Err-clause-honest c = (
  λ honest. subst (λ f. IsGranted f) (sym c.fault.ensures.file) honest,
  λ honest. subst (λ f. IsGranted f) c.fault.ensures.file honest,
)
