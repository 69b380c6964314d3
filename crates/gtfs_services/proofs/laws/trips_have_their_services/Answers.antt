use Rattle.std.proofs.Common.{◌∙◌, ap, get_or}
use Rattle.std.specs.Prelude.{slice_get, unwrap_or}
use Rattle.gtfs_rows.specs.Rows.{rows_of}
use Rattle.gtfs_rows.proofs.TextFacts.{has_own, numbered_is}
use Rattle.gtfs_services.specs.Trips.{service_id, service_values}
use Rattle.gtfs_services.proofs.laws.trips_have_their_services.Goals as goal

pub returns : goal.returns
returns c = λ table i d lt.
    let row = get_or (rows_of table) i d in
    let is = numbered_is (service_values table) (service_id table row) (has_own (service_id table) (rows_of table) i d lt) in
    ap (λ o. slice_get (service_values table) (unwrap_or o 0)) is.0 ∙ is.1
