use Rattle.pattern_tree.proofs.WithinFacts.{within}
use Rattle.pattern_tree.proofs.laws.finished_is_within.Goals as goal

pub returns : goal.returns
returns c = within
