use Rattle.std.proofs.Common.{length}
use Rattle.pattern_tree.proofs.growth.+chain.Given as goal

abbrev pub decreases-chain : goal.decreases-chain
decreases-chain g l = length l.later.now
