use Rattle.merging.proofs.Runs.{runs_again_lem}
use Rattle.merging.proofs.laws.runs_again.Goals as goal

pub returns : goal.returns
returns c = runs_again_lem
