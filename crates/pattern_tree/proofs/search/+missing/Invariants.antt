use Rattle.std.proofs.Common.{length}
use Rattle.pattern_tree.proofs.search.+missing.Given as goal

abbrev pub decreases-missing : goal.decreases-missing
decreases-missing g l = length l.later.now
