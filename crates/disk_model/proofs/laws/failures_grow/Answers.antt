use Rattle.disk_model.proofs.Moments.{failures_grow}
use Rattle.disk_model.proofs.laws.failures_grow.Goals as goal

pub returns : goal.returns
returns c = failures_grow
