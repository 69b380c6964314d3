use Rattle.gtfs_stops.proofs.LawFacts.{stations}
use Rattle.gtfs_stops.proofs.laws.stops_have_their_stations.Goals as goal

pub returns : goal.returns
returns c = stations
