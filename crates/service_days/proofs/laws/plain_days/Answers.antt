use Rattle.service_days.proofs.PlainRules.{plain_days}
use Rattle.service_days.proofs.laws.plain_days.Goals as goal

pub returns : goal.returns
returns c = plain_days
