use Rattle.std.proofs.Common.{length}
use Rattle.pattern_query.proofs.search.Search.+last_moment.Given as goal

abbrev pub decreases-last_moment : goal.decreases-last_moment
decreases-last_moment l = length l.path.now
