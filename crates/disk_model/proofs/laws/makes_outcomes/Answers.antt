use Rattle.disk_model.proofs.Filled.{makes_outcome}
use Rattle.disk_model.proofs.laws.makes_outcomes.Goals as goal

pub returns : goal.returns
returns c = makes_outcome
