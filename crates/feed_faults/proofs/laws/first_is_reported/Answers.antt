use Rattle.feed_faults.proofs.LawFiles.{agree-feed}
use Rattle.feed_faults.proofs.laws.first_is_reported.Goals as goal

pub returns : goal.returns
returns c = agree-feed
