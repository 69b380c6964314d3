use Rattle.service_days.proofs.PlainRules.{plain_covers}
use Rattle.service_days.proofs.laws.plain_covers.Goals as goal

pub returns : goal.returns
returns c = plain_covers
