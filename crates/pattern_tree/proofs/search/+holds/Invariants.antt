use Rattle.std.proofs.Common.{length}
use Rattle.pattern_tree.proofs.search.+holds.Given as goal

abbrev pub decreases-holds : goal.decreases-holds
decreases-holds g l = length l.path.now
