use Rattle.disk_model.proofs.Sound.{shortened_reads}
use Rattle.disk_model.proofs.laws.shortened_reads_are_outcomes.Goals as goal

pub returns : goal.returns
returns c = shortened_reads
