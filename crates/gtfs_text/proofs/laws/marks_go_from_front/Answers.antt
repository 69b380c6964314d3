use Rattle.gtfs_text.proofs.LawFacts.{follows_marks}
use Rattle.gtfs_text.proofs.laws.marks_go_from_front.Goals as goal

pub returns : goal.returns
returns c = follows_marks
