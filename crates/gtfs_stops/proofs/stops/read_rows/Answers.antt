use Rattle.std.proofs.Common.{◌∙◌, ap, map, List, ℕ}
use Rattle.std.proofs.lemmas.Result.{err_from_is_err_and}
use Rattle.gtfs_stops.specs.declared.stops.RowKind.TheVariants as row_kinds
use Rattle.gtfs_stops.specs.Stops.{rows_of_kind, stop_among, station_of}
use Rattle.gtfs_stops.proofs.stops.read_rows.Goals as goal

pub returns-in_err-add_ids-clause-stops : goal.returns-in_err-add_ids-clause-stops
returns-in_err-add_ids-clause-stops c =
    let p = err_from_is_err_and c.from_residual.result c.from_residual.ensures.1 in
    rw (p.1, p.2) c.in_err-add_ids.ensures.tests

pub keep_stops-requires-clause-few : goal.keep_stops-requires-clause-few
keep_stops-requires-clause-few c = c.in_ok-add_ids.ensures.few_stations

pub returns-in_err-stops-clause-stops : goal.returns-in_err-stops-clause-stops
returns-in_err-stops-clause-stops c =
    let p = err_from_is_err_and c.from_residual-in_err-stops.result c.from_residual-in_err-stops.ensures.1 in
    rw (p.1, p.2) tt

pub returns-in_err-keep_stations-clause-stops : goal.returns-in_err-keep_stations-clause-stops
returns-in_err-keep_stations-clause-stops c =
    let p = err_from_is_err_and c.from_residual-in_err-keep_stations.result c.from_residual-in_err-keep_stations.ensures.1 in
    rw (p.1, p.2) tt

pub returns-clause-stops : goal.returns-clause-stops
returns-clause-stops c =
    (c.in_ok-add_ids.ensures.tests, c.in_ok-stops.ensures ∙ ap (λ (texts : List (List ℕ)). map (stop_among texts c.args.sheet.now) (rows_of_kind row_kinds.Stop c.args.sheet.now)) c.in_ok-add_ids.ensures.ids.stations)

pub returns-clause-stations : goal.returns-clause-stations
returns-clause-stations c = c.in_ok-keep_stations.ensures ∙ ap (map station_of) c.in_ok-add_ids.ensures.ids.stations
