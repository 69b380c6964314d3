use Rattle.feed_timetable.proofs.KnownTrips.{trips_are_known}
use Rattle.feed_timetable.proofs.laws.trips_are_known.Goals as goal

pub returns : goal.returns
returns c = trips_are_known
