use Rattle.disk_model.proofs.Moments.{writes_leave}
use Rattle.disk_model.proofs.laws.writes_leave.Goals as goal

pub returns : goal.returns
returns c = writes_leave
