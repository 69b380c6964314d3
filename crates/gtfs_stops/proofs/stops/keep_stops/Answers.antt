use Rattle.std.proofs.Common.{◌≡◌, ◌∙◌, sym, ap, Option, ℕ, filter, map, List, ◌++◌, ◌∷◌, []}
use Rattle.std.proofs.lemmas.List.{map_push}
use Rattle.gtfs_rows.specs.declared.values.Stop.{Stop}
use Rattle.gtfs_rows.specs.Rows.{text_under, texts_in, number_in}
use Rattle.gtfs_stops.specs.Stops.{means_stop, location_type, stop_among}
use Rattle.gtfs_rows.proofs.FilledFacts.{turn, turns_end}
use Rattle.gtfs_rows.proofs.RowFacts.{filtered_in, filtered_out}
use Rattle.gtfs_stops.proofs.stops.keep_stops.Goals as goal

stop_is : {i j : List ℕ} {s t : Option ℕ} → i ≡ j → s ≡ t → ◌≡◌ {A = Stop} (record { id = i; station = s }) (record { id = j; station = t })
stop_is p q = λ k. record { id = p k; station = q k }

pub text_under-requires : goal.text_under-requires
text_under-requires c = (turn (c.into_iter-row-iterator.ensures.into_iter_gives ∙ c.filled_rows-row-items.ensures) _ _ c.loop-row.yielded_by c.in-Some.is c.next.ensures.steps).there

pub text_under-requires-then-means_stop : goal.text_under-requires-then-means_stop
text_under-requires-then-means_stop c = (turn (c.into_iter-row-iterator.ensures.into_iter_gives ∙ c.filled_rows-row-items.ensures) _ _ c.loop-row.yielded_by c.in-Some.is c.next.ensures.steps).there

pub text_under-requires-then-means_stop-2 : goal.text_under-requires-then-means_stop-2
text_under-requires-then-means_stop-2 c = (turn (c.into_iter-row-iterator.ensures.into_iter_gives ∙ c.filled_rows-row-items.ensures) _ _ c.loop-row.yielded_by c.in-Some.is c.next.ensures.steps).there

pub loop-row-preserved-in-Continue-branch-2 : goal.loop-row-preserved-in-Continue-branch-2
loop-row-preserved-in-Continue-branch-2 c =
    let table = c.args.sheet.now in
    let given = c.loop-row.yielded in
    let row = c.in-Some.row in
    let at = λ (column : Option ℕ). text_under table column row in
    let is = λ (row : ℕ). means_stop (location_type table row) in
    let stations = texts_in c.args.stations.now.keys in
    let kind = ap means_stop (sym (c.text_under.ensures ∙ ap at c.requires.columns.location_type)) ∙ sym c.means_stop.ensures ∙ c.if-means_stop.true in
    let all : filter is (given ++ row ∷ []) ≡ filter is given ++ row ∷ [] = filtered_in is given row kind in
    let id = c.in_ok-id.ensures ∙ c.text_under-then-means_stop.ensures ∙ ap at c.requires.columns.id in
    let station = c.number_in-station.ensures ∙ ap (number_in stations) (c.text_under-then-means_stop-2.ensures ∙ ap at c.requires.columns.parent) in
    rw (c.in_ok-push.ensures.items, c.loop-row.invariant)
    (ap (λ (stop : Stop). map (stop_among stations table) (filter is given) ++ stop ∷ []) (stop_is id station)
    ∙ sym (ap (map (stop_among stations table)) all ∙ map_push (stop_among stations table) (filter is given) row))

pub loop-row-preserved : goal.loop-row-preserved
loop-row-preserved c =
    let table = c.args.sheet.now in
    let given = c.loop-row.yielded in
    let row = c.in-Some.row in
    let is = λ (row : ℕ). means_stop (location_type table row) in
    let kind = ap means_stop (sym (c.text_under.ensures ∙ ap (λ (column : Option ℕ). text_under table column row) c.requires.columns.location_type)) ∙ sym c.means_stop.ensures ∙ c.if-means_stop.false in
    let all : filter is (given ++ row ∷ []) ≡ filter is given = filtered_out is given row kind in
    c.loop-row.invariant ∙ ap (map (stop_among (texts_in c.args.stations.now.keys) table)) (sym all)

pub returns : goal.returns
returns c =
    let table = c.args.sheet.now in
    c.loop-row.invariant
    ∙ ap (λ rows. map (stop_among (texts_in c.args.stations.now.keys) table) (filter (λ row. means_stop (location_type table row)) rows))
    (turns_end table (c.into_iter-row-iterator.ensures.into_iter_gives ∙ c.filled_rows-row-items.ensures) _ _ c.loop-row.yielded_by c.in-None.is c.next.ensures.steps)
