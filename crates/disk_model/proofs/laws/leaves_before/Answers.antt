use Rattle.disk_model.proofs.Clock.{left_before}
use Rattle.disk_model.proofs.laws.leaves_before.Goals as goal

pub returns : goal.returns
returns c = left_before
