use Rattle.std.proofs.Common.{◌≡◌, ◌++◌}
use Rattle.gtfs_rows.specs.Rows.{texts_in}
use Rattle.gtfs_services.proofs.trips.keep_services.Given as goal

abbrev pub invariant-loop-service : goal.invariant-loop-service
invariant-loop-service l = l.ids.items ++ texts_in l.service-iterator ≡ texts_in l.services.keys
