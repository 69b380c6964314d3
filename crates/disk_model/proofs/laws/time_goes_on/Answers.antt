use Rattle.disk_model.proofs.Clock.{goes_on}
use Rattle.disk_model.proofs.laws.time_goes_on.Goals as goal

pub returns : goal.returns
returns c = goes_on
