use Rattle.disk_model.proofs.Moments.{syncs_leave}
use Rattle.disk_model.proofs.laws.syncs_leave.Goals as goal

pub returns : goal.returns
returns c = syncs_leave
