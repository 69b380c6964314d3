use Rattle.disk_model.proofs.Clock.{left_now}
use Rattle.disk_model.proofs.laws.leaves_now.Goals as goal

pub returns : goal.returns
returns c = left_now
