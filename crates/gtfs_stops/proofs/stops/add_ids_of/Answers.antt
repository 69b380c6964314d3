use Rattle.std.proofs.Common.{◌≡◌, ◌∙◌, sym, ap, Option, ℕ, filter, map, ◌++◌, ◌∷◌, []}
use Rattle.std.proofs.lemmas.List.{map_push}
use Rattle.gtfs_rows.specs.Rows.{text_under, distinct, with_text}
use Rattle.gtfs_stops.specs.Stops.{means, stop_id, location_type}
use Rattle.gtfs_rows.proofs.FilledFacts.{turn, turns_end}
use Rattle.gtfs_rows.proofs.RowFacts.{filtered_in, filtered_out}
use Rattle.gtfs_rows.proofs.TextFacts.{inserted, distinct-push}
use Rattle.gtfs_stops.proofs.stops.add_ids_of.Goals as goal

pub text_under-requires : goal.text_under-requires
text_under-requires c = (turn (c.into_iter-row-iterator.ensures.into_iter_gives ∙ c.filled_rows-row-items.ensures) _ _ c.loop-row.yielded_by c.in-Some.is c.next.ensures.steps).there

pub text_under-requires-then-means : goal.text_under-requires-then-means
text_under-requires-then-means c = (turn (c.into_iter-row-iterator.ensures.into_iter_gives ∙ c.filled_rows-row-items.ensures) _ _ c.loop-row.yielded_by c.in-Some.is c.next.ensures.steps).there

pub loop-row-preserved-in_ok-insert : goal.loop-row-preserved-in_ok-insert
loop-row-preserved-in_ok-insert c =
    let table = c.args.sheet.now in
    let given = c.loop-row.yielded in
    let row = c.in-Some.row in
    let is = λ (row : ℕ). means c.args.kind (location_type table row) in
    let kind = ap (means c.args.kind) (sym (c.text_under.ensures ∙ ap (λ (column : Option ℕ). text_under table column row) c.requires.columns.location_type)) ∙ sym c.means.ensures ∙ c.if-means.true in
    let all : filter is (given ++ row ∷ []) ≡ filter is given ++ row ∷ [] = filtered_in is given row kind in
    let id = c.text_under-then-means.ensures ∙ ap (λ (column : Option ℕ). text_under table column row) c.requires.columns.id in
    rw c.in_ok-insert.ensures.keys (inserted c.loop-row.ids.keys c.text_under-then-means.result
    ∙ ap (λ texts. with_text texts c.text_under-then-means.result.now) c.loop-row.invariant
    ∙ ap (with_text (distinct (map (stop_id table) (filter is given)))) id
    ∙ sym (ap distinct (ap (map (stop_id table)) all ∙ map_push (stop_id table) (filter is given) row) ∙ distinct-push (map (stop_id table) (filter is given)) (stop_id table row)))

pub loop-row-preserved : goal.loop-row-preserved
loop-row-preserved c =
    let table = c.args.sheet.now in
    let given = c.loop-row.yielded in
    let row = c.in-Some.row in
    let is = λ (row : ℕ). means c.args.kind (location_type table row) in
    let kind = ap (means c.args.kind) (sym (c.text_under.ensures ∙ ap (λ (column : Option ℕ). text_under table column row) c.requires.columns.location_type)) ∙ sym c.means.ensures ∙ c.if-means.false in
    let all : filter is (given ++ row ∷ []) ≡ filter is given = filtered_out is given row kind in
    c.loop-row.invariant ∙ ap (λ rows. distinct (map (stop_id table) rows)) (sym all)

pub returns : goal.returns
returns c =
    let table = c.args.sheet.now in
    c.loop-row.invariant
    ∙ ap (λ rows. distinct (map (stop_id table) (filter (λ row. means c.args.kind (location_type table row)) rows)))
    (turns_end table (c.into_iter-row-iterator.ensures.into_iter_gives ∙ c.filled_rows-row-items.ensures) _ _ c.loop-row.yielded_by c.in-None.is c.next.ensures.steps)
