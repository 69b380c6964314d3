use Rattle.gtfs_text.proofs.LawFacts.{between_spaces}
use Rattle.gtfs_text.proofs.laws.spaces_go_from_ends.Goals as goal

pub returns : goal.returns
returns c = between_spaces
