use Rattle.std.proofs.Common.{◌≡◌, ◌∙◌, sym, ap, ℕ, List, length, map, ◌<◌, Bor, get_or}
use Rattle.std.specs.List.{All}
use Rattle.std.specs.Option.{IfSome}
use Rattle.std.proofs.lemmas.List.{length-map}
use Rattle.std.proofs.lemmas.List.Elements.{All-map, All-from_get_or}
use Rattle.std.proofs.lemmas.Result.{err_from_is_err_and}
use Rattle.gtfs_text.specs.Sheets.{Table}
use Rattle.gtfs_rows.specs.declared.values.Stop.{Stop}
use Rattle.gtfs_rows.specs.declared.values.Station.{Station}
use Rattle.gtfs_rows.specs.Rows.{texts_in, number_in}
use Rattle.gtfs_rows.proofs.TextFacts.{length-texts_in, number_below}
use Rattle.gtfs_stops.specs.declared.stops.RowKind.TheVariants as row_kinds
use Rattle.gtfs_stops.specs.Stops.{stop_id, ids_of_kind, rows_of_kind, stop_among, station_of, stop_values, station_values, parent_station}
use Rattle.gtfs_stops.proofs.stops.read_stops.Goals as goal

pub returns-in_err-stops-clause-stops : goal.returns-in_err-stops-clause-stops
returns-in_err-stops-clause-stops c =
    let p = err_from_is_err_and c.from_residual.result c.from_residual.ensures.1 in
    rw (p.1, p.2) c.in_err-stops.ensures.stops

-- as many stops as ids of stops, and as many stations as ids of stations
as_many_stops : (table : Table) (keys : List (Bor (List ℕ))) (stops : List Stop) → texts_in keys ≡ ids_of_kind row_kinds.Stop table → stops ≡ stop_values table → length keys ≡ length stops
as_many_stops table keys stops held are =
    sym (length-texts_in keys) ∙ ap length held ∙ length-map (rows_of_kind row_kinds.Stop table) (stop_id table)
    ∙ sym (ap length are ∙ length-map (rows_of_kind row_kinds.Stop table) (stop_among (ids_of_kind row_kinds.Station table) table))

as_many_stations : (table : Table) (keys : List (Bor (List ℕ))) (stations : List Station) → texts_in keys ≡ ids_of_kind row_kinds.Station table → stations ≡ station_values table → length keys ≡ length stations
as_many_stations table keys stations held are =
    sym (length-texts_in keys) ∙ ap length held ∙ sym (ap length are ∙ length-map (ids_of_kind row_kinds.Station table) station_of)

pub returns-clause-stop_ids : goal.returns-clause-stop_ids
returns-clause-stop_ids c = as_many_stops c.args.sheet.now c.read_rows.new.ids.stops.keys c.in_ok-stops.stops.items c.in_ok-stops.ensures.ids.stops c.in_ok-stops.ensures.stops.1

pub returns-clause-few : goal.returns-clause-few
returns-clause-few c =
    rw (← as_many_stops c.args.sheet.now c.read_rows.new.ids.stops.keys c.in_ok-stops.stops.items c.in_ok-stops.ensures.ids.stops c.in_ok-stops.ensures.stops.1) c.in_ok-stops.ensures.few

pub returns-clause-station_ids : goal.returns-clause-station_ids
returns-clause-station_ids c =
    as_many_stations c.args.sheet.now c.read_rows.new.ids.stations.keys c.in_ok-stops.stations.items c.in_ok-stops.ensures.ids.stations c.in_ok-stops.ensures.stations

pub returns-clause-few_stations : goal.returns-clause-few_stations
returns-clause-few_stations c =
    rw (← as_many_stations c.args.sheet.now c.read_rows.new.ids.stations.keys c.in_ok-stops.stations.items c.in_ok-stops.ensures.ids.stations c.in_ok-stops.ensures.stations)
    c.in_ok-stops.ensures.few_stations

-- each station's number is below how many there are
linked : (texts : List (List ℕ)) (table : Table) (rows : List ℕ) (n : ℕ) → n ≡ length texts → All (λ stop. IfSome stop.station (λ m. m < n)) (map (stop_among texts table) rows)
linked texts table rows n e =
    All-map (λ (stop : Stop). IfSome stop.station (λ m. m < n)) (stop_among texts table) rows
    (All-from_get_or (λ (row : ℕ). IfSome (number_in texts (parent_station table row)) (λ m. m < n)) rows 0 (λ i lt. rw e (number_below texts (parent_station table (get_or rows i 0)))))

pub returns-clause-linked : goal.returns-clause-linked
returns-clause-linked c =
    let texts = ids_of_kind row_kinds.Station c.args.sheet.now in
    let count : length c.in_ok-stops.stations.items ≡ length texts = ap length c.in_ok-stops.ensures.stations ∙ length-map texts station_of in
    rw c.in_ok-stops.ensures.stops.1 (linked texts c.args.sheet.now (rows_of_kind row_kinds.Stop c.args.sheet.now) (length c.in_ok-stops.stations.items) count)
