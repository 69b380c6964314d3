use Rattle.std.proofs.Common.{length}
use Rattle.pattern_query.proofs.feet.+walk_along.Given as goal

abbrev pub decreases-walk_along : goal.decreases-walk_along
decreases-walk_along l = length l.path.now
