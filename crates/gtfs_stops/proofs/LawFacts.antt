-- The stations of stops.
use Rattle.std.proofs.Common.{◌≡◌, ◌∙◌, sym, ap, refl, arith, ℕ, Bool, true, false, not, ◌||◌, List, [], ◌∷◌, get_or, None, Some, IsSomeAnd, codes, subst, Option}
use Rattle.std.specs.Prelude.{slice_get}
use Rattle.std.specs.Str.{bytes_eq}
use Rattle.std.specs.List.{All}
use Rattle.std.proofs.lemmas.List.Elements.{All-filter, filter_passes}
use Rattle.gtfs_text.specs.Sheets.{Table}
use Rattle.gtfs_rows.specs.declared.fault.FaultKind.TheVariants as kinds
use Rattle.gtfs_rows.specs.declared.fault.FeedFile.TheVariants as files
use Rattle.gtfs_rows.specs.Faults.{test, first_fault}
use Rattle.gtfs_rows.specs.Rows.{has_text, is_empty, rows_of}
use Rattle.gtfs_rows.proofs.RowFacts.{each_holds, table_passes}
use Rattle.gtfs_rows.proofs.TextFacts.{any-map, any_none, no_number, numbered_is, same_text}
use Rattle.gtfs_stops.specs.declared.stops.RowKind.TheVariants as row_kinds
use Rattle.gtfs_stops.specs.Laws.{HasItsStation}
use Rattle.gtfs_stops.specs.Stops.{has_few_stops, ids_of_kind, location_type, means, means_stop, parent_stands, parent_station, rows_of_kind, stop_id, stop_tests, stops_tests}

isnt : (b : Bool) → not b ≡ true → b ≡ false
isnt true h = cc h
isnt false h = refl

-- what the tests of a row say
row_holds : (table : Table) (row : ℕ) → first_fault (stop_tests table row) ≡ None
    → (is_empty (stop_id table row) ≡ false) × (parent_stands (means_stop (location_type table row)) (parent_station table row) (ids_of_kind row_kinds.Station table) ≡ true)
row_holds table row h =
    let d = test kinds.BadField files.Stops row true in
    let holds = each_holds (stop_tests table row) h in
    (isnt (is_empty (stop_id table row)) (holds 0 d (omega arith)), holds 2 d (omega arith))

-- no station has an empty id
apart : (parent id : List ℕ) → is_empty parent ≡ true → is_empty id ≡ false → bytes_eq parent id ≡ false
apart parent id none some = elim (bytes_eq parent id) as (λ b. bytes_eq parent id ≡ b → b ≡ false) [
  | true ↦ λ e. let same = same_text parent id e in absurd (let clash : true ≡ false = sym none ∙ ap is_empty same ∙ some in cc clash)
  | false ↦ λ e. refl
] refl

named : (is_stop empty has : Bool) → ((not is_stop || empty) || has) ≡ true → is_stop ≡ true → empty ≡ false → has ≡ true
named true false has h s e = h
named true true has h s e = absurd (cc e)
named false empty has h s e = absurd (cc s)

pub stations : (table : Table) → first_fault (stops_tests table) ≡ None → All (HasItsStation table) (rows_of_kind row_kinds.Stop table)
stations table passes =
    let ids = ids_of_kind row_kinds.Station table in
    let rows = table_passes files.Stops (codes "stop_id" ∷ []) stop_tests has_few_stops table passes in
    let of_stations = All-filter (λ row. means row_kinds.Station (location_type table row)) (λ row. first_fault (stop_tests table row) ≡ None) (rows_of table) rows in
    let of_stops = All-filter (λ row. means row_kinds.Stop (location_type table row)) (λ row. first_fault (stop_tests table row) ≡ None) (rows_of table) rows in
    let own = filter_passes (λ row. means row_kinds.Stop (location_type table row)) (rows_of table) in
    λ k d lt.
    let row = get_or (rows_of_kind row_kinds.Stop table) k d in
    let parent = parent_station table row in
    let stands = (row_holds table row (of_stops k d lt)).1 in
    record {
      alone = λ none. no_number ids parent
          (any-map (bytes_eq parent) (stop_id table) (rows_of_kind row_kinds.Station table)
          ∙ any_none (λ row. bytes_eq parent (stop_id table row)) (rows_of_kind row_kinds.Station table)
          (λ j e below. apart parent (stop_id table (get_or (rows_of_kind row_kinds.Station table) j e)) none
          (row_holds table (get_or (rows_of_kind row_kinds.Station table) j e) (of_stations j e below)).0));
      named = λ some.
          let is = numbered_is ids parent (named (means_stop (location_type table row)) (is_empty parent) (has_text ids parent) stands (own k d lt) some) in
          subst (λ (o : Option ℕ). IsSomeAnd o (λ number. slice_get ids number ≡ Some parent)) (sym is.0) is.1;
    }
