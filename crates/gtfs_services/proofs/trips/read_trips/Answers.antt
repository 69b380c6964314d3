use Rattle.std.proofs.Common.{◌≡◌, ◌∙◌, sym, ap, arith, ℕ, length, map, ◌<◌}
use Rattle.std.specs.List.{All}
use Rattle.std.proofs.lemmas.Result.{err_from_is_err_and}
use Rattle.std.proofs.lemmas.List.{length-map}
use Rattle.std.proofs.lemmas.List.Elements.{All-map, All-from_get_or}
use Rattle.gtfs_text.specs.Sheets.{Table}
use Rattle.gtfs_rows.specs.declared.values.Trip.{Trip}
use Rattle.gtfs_rows.specs.Rows.{rows_of}
use Rattle.gtfs_services.specs.Trips.{trip_id, trip_value, service_values, service_id}
use Rattle.gtfs_rows.proofs.RowFacts.{length-rows}
use Rattle.gtfs_rows.proofs.TextFacts.{known_number, length-texts_in}
use Rattle.gtfs_services.proofs.trips.read_trips.Goals as goal

pub returns-in_err-test_rows-clause-trips : goal.returns-in_err-test_rows-clause-trips
returns-in_err-test_rows-clause-trips c =
    let p = err_from_is_err_and c.from_residual.result c.from_residual.ensures.1 in
    rw (p.1, p.2) c.in_err-test_rows.ensures.tests

pub returns-clause-few : goal.returns-clause-few
returns-clause-few c =
    let count : length c.in_ok-trips.trips.items ≡ length (rows_of c.args.sheet.now) = ap length c.in_ok-trips.ensures.trips ∙ length-map (rows_of c.args.sheet.now) (trip_value c.args.sheet.now) in
    omega (arith, count, length-rows c.args.sheet.now, c.in_ok-test_rows.ensures.few)

-- each service's number is below how many there are
known : (table : Table) (n : ℕ) → n ≡ length (service_values table) → All (λ trip. trip.service < n) (map (trip_value table) (rows_of table))
known table n e =
    All-map (λ (trip : Trip). trip.service < n) (trip_value table) (rows_of table)
    (All-from_get_or (λ (row : ℕ). (trip_value table row).service < n) (rows_of table) 0 (λ i lt. rw e (known_number (service_id table) (rows_of table) i 0 lt)))

pub returns-clause-known : goal.returns-clause-known
returns-clause-known c =
    rw c.in_ok-trips.ensures.trips (known c.args.sheet.now (length c.in_ok-trips.services.items) (ap length c.in_ok-trips.ensures.services))

pub returns-clause-trip_ids : goal.returns-clause-trip_ids
returns-clause-trip_ids c =
    sym (length-texts_in c.test_rows.new.ids.keys) ∙ ap length c.in_ok-test_rows.ensures.ids ∙ length-map (rows_of c.args.sheet.now) (trip_id c.args.sheet.now)
    ∙ sym (ap length c.in_ok-trips.ensures.trips ∙ length-map (rows_of c.args.sheet.now) (trip_value c.args.sheet.now))
