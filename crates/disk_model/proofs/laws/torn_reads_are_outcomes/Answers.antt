use Rattle.disk_model.proofs.Sound.{torn_reads}
use Rattle.disk_model.proofs.laws.torn_reads_are_outcomes.Goals as goal

pub returns : goal.returns
returns c = torn_reads
