use Rattle.disk_model.proofs.Sound.{outcome_before_a_cut}
use Rattle.disk_model.proofs.laws.cuts_add_outcomes.Goals as goal

pub returns : goal.returns
returns c = outcome_before_a_cut
