use Rattle.disk_model.proofs.Filled.{makes_each}
use Rattle.disk_model.proofs.laws.makes_each_outcome.Goals as goal

pub returns : goal.returns
returns c = makes_each
