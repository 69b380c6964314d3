use Rattle.std.proofs.Common.{length}
use Rattle.pattern_tree.proofs.growth.+add.Given as goal

abbrev pub decreases-add : goal.decreases-add
decreases-add g l = length l.later.now
