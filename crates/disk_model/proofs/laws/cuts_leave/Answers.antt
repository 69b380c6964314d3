use Rattle.disk_model.proofs.Moments.{cuts_leave}
use Rattle.disk_model.proofs.laws.cuts_leave.Goals as goal

pub returns : goal.returns
returns c = cuts_leave
