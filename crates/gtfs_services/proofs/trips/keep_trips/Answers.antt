use Rattle.std.proofs.Common.{◌≡◌, ◌∙◌, sym, ap, arith, ℕ, List, [], ◌∷◌, ◌++◌, ◌≤◌, map, length, append_assoc, Option, Some}
use Rattle.std.specs.Prelude.{unwrap_or}
use Rattle.std.specs.Str.{bytes_eq}
use Rattle.std.specs.List.{position_or_len}
use Rattle.std.proofs.lemmas.List.{map_push, length-map, length_push, map-append}
use Rattle.gtfs_text.specs.Sheets.{Table}
use Rattle.gtfs_rows.specs.declared.values.Trip.{Trip}
use Rattle.gtfs_rows.specs.Rows.{text_under, texts_in, distinct, with_text, number_in}
use Rattle.gtfs_services.specs.Trips.{service_id, trip_value, service_values}
use Rattle.gtfs_rows.proofs.FilledFacts.{IsTurn, turn, turns_end, length-given}
use Rattle.gtfs_rows.proofs.TextFacts.{inserted, distinct-push, distinct_extends, number_stays, length-distinct, length-texts_in, first-texts_in}
use Rattle.gtfs_services.proofs.trips.keep_trips.Goals as goal

-- the services that the trips of these rows have, in the order of their first trips
services_of : Table → List ℕ → List (List ℕ)
services_of table rows = distinct (map (service_id table) rows)

-- the services of one row more
one_more : (table : Table) (rows : List ℕ) (row : ℕ) → services_of table (rows ++ row ∷ []) ≡ with_text (services_of table rows) (service_id table row)
unfolding services_of
one_more table rows row = ap distinct (map_push (service_id table) rows row) ∙ distinct-push (map (service_id table) rows) (service_id table row)

-- the number of a row's service among those before it is its number among all
number_is : (table : Table) (given : List ℕ) (row : ℕ) → IsTurn table given row
    → number_in (service_values table) (service_id table row) ≡ Some (position_or_len (bytes_eq (service_id table row)) (services_of table given))
unfolding services_of
number_is table given row here =
    let parted : given ++ row ∷ here.rest ≡ (given ++ row ∷ []) ++ here.rest = sym (append_assoc given (row ∷ []) here.rest) in
    let more = distinct_extends (map (service_id table) (given ++ row ∷ [])) (map (service_id table) here.rest) in
    let all : service_values table ≡ with_text (services_of table given) (service_id table row) ++ more.0 =
    ap (λ (rows : List ℕ). distinct (map (service_id table) rows)) (here.whole ∙ parted) ∙ ap distinct (map-append (service_id table) (given ++ row ∷ []) here.rest) ∙ more.1
    ∙ ap (λ (texts : List (List ℕ)). texts ++ more.0) (one_more table given row) in
    ap (λ (texts : List (List ℕ)). number_in texts (service_id table row)) all ∙ number_stays (services_of table given) more.0 (service_id table row)

-- at most as many services as rows
few_services : (table : Table) (rows : List ℕ) → length (services_of table rows) ≤ length rows
unfolding services_of
few_services table rows = omega (arith, length-distinct (map (service_id table) rows), length-map rows (service_id table))

pub text_under-requires : goal.text_under-requires
text_under-requires c = (turn (c.into_iter-row-iterator.ensures.into_iter_gives ∙ c.filled_rows-row-items.ensures) _ _ c.loop-row.yielded_by c.in-Some.is c.next.ensures.steps).there

pub text_under-requires-in-loop-row : goal.text_under-requires-in-loop-row
text_under-requires-in-loop-row c = (turn (c.into_iter-row-iterator.ensures.into_iter_gives ∙ c.filled_rows-row-items.ensures) _ _ c.loop-row.yielded_by c.in-Some.is c.next.ensures.steps).there

pub overflow_cast-number : goal.overflow_cast-number
unfolding services_of
overflow_cast-number c =
    let table = c.args.sheet.now in
    let given = c.loop-row.yielded in
    let row = c.in-Some.row in
    let here = turn (c.into_iter-row-iterator.ensures.into_iter_gives ∙ c.filled_rows-row-items.ensures) _ _ c.loop-row.yielded_by c.in-Some.is c.next.ensures.steps in
    let service = c.text_under-in-loop-row.ensures ∙ ap (λ (column : Option ℕ). text_under table column row) c.requires.columns.service in
    let joined : texts_in c.insert_full.new.self.keys ≡ services_of table (given ++ row ∷ []) =
    ap texts_in c.in_ok-number.ensures.keys ∙ inserted c.loop-row.services.keys c.text_under-in-loop-row.result
    ∙ ap (λ texts. with_text texts c.text_under-in-loop-row.result.now) c.loop-row.invariant.services ∙ ap (with_text (services_of table given)) service ∙ sym (one_more table given row) in
    let few = few_services table (given ++ row ∷ []) in
    let count : length c.insert_full.new.self.keys ≡ length (services_of table (given ++ row ∷ [])) = sym (length-texts_in c.insert_full.new.self.keys) ∙ ap length joined in
    omega (arith, few, count, length_push given row, length-given table given row here, c.in_ok-number.ensures.within, c.requires.few)

trip_is : {i j : List ℕ} {s t : ℕ} → i ≡ j → s ≡ t → ◌≡◌ {A = Trip} (record { id = i; service = s }) (record { id = j; service = t })
trip_is p q = λ k. record { id = p k; service = q k }

pub loop-row-preserved : goal.loop-row-preserved
unfolding services_of
loop-row-preserved c =
    let table = c.args.sheet.now in
    let given = c.loop-row.yielded in
    let row = c.in-Some.row in
    let here : IsTurn table given row = turn (c.into_iter-row-iterator.ensures.into_iter_gives ∙ c.filled_rows-row-items.ensures) _ _ c.loop-row.yielded_by c.in-Some.is c.next.ensures.steps in
    let at = λ (column : Option ℕ). text_under table column row in
    let id = c.in_ok-id.ensures ∙ c.text_under.ensures ∙ ap at c.requires.columns.id in
    let service = c.text_under-in-loop-row.ensures ∙ ap at c.requires.columns.service in
    let first = c.in_ok-number.ensures.index ∙ first-texts_in c.loop-row.services.keys c.text_under-in-loop-row.result.now
    ∙ ap (position_or_len (bytes_eq c.text_under-in-loop-row.result.now)) c.loop-row.invariant.services ∙ ap (λ t. position_or_len (bytes_eq t) (services_of table given)) service in
    let number = first ∙ ap (λ (o : Option ℕ). unwrap_or o 0) (sym (number_is table given row here)) in
    record {
      services = rw c.in_ok-number.ensures.keys (inserted c.loop-row.services.keys c.text_under-in-loop-row.result
          ∙ ap (λ texts. with_text texts c.text_under-in-loop-row.result.now) c.loop-row.invariant.services ∙ ap (with_text (services_of table given)) service ∙ sym (one_more table given row));
      trips = rw (c.in_ok-push.ensures.items, c.loop-row.invariant.trips)
          (ap (λ (trip : Trip). map (trip_value table) given ++ trip ∷ []) (trip_is id number) ∙ sym (map_push (trip_value table) given row));
    }

pub returns-clause-trips : goal.returns-clause-trips
returns-clause-trips c =
    let table = c.args.sheet.now in
    c.loop-row.invariant.trips
    ∙ ap (map (trip_value table)) (turns_end table (c.into_iter-row-iterator.ensures.into_iter_gives ∙ c.filled_rows-row-items.ensures) _ _ c.loop-row.yielded_by c.in-None.is c.next.ensures.steps)

pub returns-clause-services : goal.returns-clause-services
returns-clause-services c =
    let table = c.args.sheet.now in
    c.loop-row.invariant.services
    ∙ ap (λ rows. distinct (map (service_id table) rows)) (turns_end table (c.into_iter-row-iterator.ensures.into_iter_gives ∙ c.filled_rows-row-items.ensures) _ _ c.loop-row.yielded_by c.in-None.is c.next.ensures.steps)
