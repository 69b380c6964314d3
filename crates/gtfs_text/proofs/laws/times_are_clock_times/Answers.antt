use Rattle.gtfs_text.proofs.LawFacts.{time_spelled, spelled_time}
use Rattle.gtfs_text.proofs.laws.times_are_clock_times.Goals as goal

pub returns : goal.returns
returns c = λ text value. (time_spelled text value, spelled_time text value)
