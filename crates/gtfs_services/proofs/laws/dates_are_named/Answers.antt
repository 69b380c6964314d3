use Rattle.gtfs_services.proofs.DateFacts.{dates_are_named}
use Rattle.gtfs_services.proofs.laws.dates_are_named.Goals as goal

pub returns : goal.returns
returns c = dates_are_named
