use Rattle.std.proofs.Common.{◌≡◌, ◌∙◌, sym, ap, refl, arith, ℕ, true, false, List, [], ◌∷◌, codes, length, ◌≤◌, ◌&&◌, nat_le, Bor}
use Rattle.std.specs.Prelude.{is_some}
use Rattle.std.specs.List.{list_all}
use Rattle.std.proofs.lemmas.List.{length-map}
use Rattle.std.proofs.lemmas.Result.{err_from_is_err_and}
use Rattle.std.proofs.lemmas.List.Kept.{AllPairs-filter}
use Rattle.gtfs_text.specs.Sheets.{Table, column_of, row_count}
use Rattle.std.specs.Str.{bytes_eq}
use Rattle.gtfs_rows.specs.declared.fault.FeedFile.TheVariants as files
use Rattle.gtfs_stops.specs.declared.stops.RowKind.{RowKind}
use Rattle.gtfs_stops.specs.declared.stops.RowKind.TheVariants as row_kinds
use Rattle.gtfs_rows.specs.Rows.{distinct, AreApart, rows_of, texts_in}
use Rattle.gtfs_stops.specs.Stops.{stop_id, stop_tests, has_few_stops, ids_of_kind, rows_of_kind, means, location_type}
use Rattle.gtfs_rows.proofs.RowFacts.{is_there, table_rest, table_row_fault, too_many, few_and, not_few, is_few, length-filter_rows}
use Rattle.gtfs_rows.proofs.TextFacts.{distinct_apart, length-texts_in}
use Rattle.gtfs_stops.proofs.stops.add_ids.Goals as goal

columns : (table : Table) → is_some (column_of table (codes "stop_id")) ≡ true → list_all (λ name. is_some (column_of table name)) (codes "stop_id" ∷ []) ≡ true
columns table h = rw h refl

-- the ids of a kind, if no two rows have one
ids_are : (table : Table) (kind : RowKind) (texts : List (List ℕ)) → AreApart (stop_id table) (rows_of table) → texts ≡ distinct (ids_of_kind kind table) → texts ≡ ids_of_kind kind table
ids_are table kind texts apart held = held ∙ distinct_apart (stop_id table) (rows_of_kind kind table)
    (AllPairs-filter (λ (a b : ℕ). bytes_eq (stop_id table b) (stop_id table a) ≡ false) (λ (row : ℕ). means kind (location_type table row)) (rows_of table) apart)

pub returns-in_err-test_rows-clause-tests : goal.returns-in_err-test_rows-clause-tests
returns-in_err-test_rows-clause-tests c =
    let p = err_from_is_err_and c.from_residual-in_err-test_rows.result c.from_residual-in_err-test_rows.ensures.1 in
    let there = columns c.args.sheet.now (is_there c.args.columns.id (column_of c.args.sheet.now (codes "stop_id")) c.is_none.result c.requires.columns.id c.is_none.ensures c.if-is_none.false) in
    let f = c.in_err-test_rows.field-0.0 in
    rw (p.1, p.2) (table_row_fault files.Stops (codes "stop_id" ∷ []) stop_tests has_few_stops c.args.sheet.now f.kind f there c.in_err-test_rows.ensures.tests)

pub returns-then-rows-gt-ROW_LIMIT-clause-tests : goal.returns-then-rows-gt-ROW_LIMIT-clause-tests
returns-then-rows-gt-ROW_LIMIT-clause-tests c =
    let there = columns c.args.sheet.now (is_there c.args.columns.id (column_of c.args.sheet.now (codes "stop_id")) c.is_none.result c.requires.columns.id c.is_none.ensures c.if-is_none.false) in
    let small = too_many (row_count c.args.sheet.now) 999_999_999 (has_few_stops c.args.sheet.now) (omega (arith, c.rows.ensures, c.if-rows-gt-ROW_LIMIT.true)) in
    rw c.new-then-rows-gt-ROW_LIMIT.ensures (table_rest files.Stops (codes "stop_id" ∷ []) stop_tests has_few_stops c.args.sheet.now false there c.in_ok-test_rows.ensures.tests small)

-- how many stops there are
stop_count : (table : Table) (keys : List (Bor (List ℕ))) (n : ℕ) → texts_in keys ≡ ids_of_kind row_kinds.Stop table → n ≡ length keys → length (ids_of_kind row_kinds.Stop table) ≡ n
stop_count table keys n held len = ap length (sym held) ∙ length-texts_in keys ∙ sym len

pub returns-then-len-gt-STOP_LIMIT-clause-tests : goal.returns-then-len-gt-STOP_LIMIT-clause-tests
returns-then-len-gt-STOP_LIMIT-clause-tests c =
    let table = c.args.sheet.now in
    let there = columns table (is_there c.args.columns.id (column_of table (codes "stop_id")) c.is_none.result c.requires.columns.id c.is_none.ensures c.if-is_none.false) in
    let count = stop_count table c.add_ids_of-2.new.ids.keys c.len.result (ids_are table row_kinds.Stop (texts_in c.add_ids_of-2.new.ids.keys) c.in_ok-test_rows.ensures.apart c.in_ok-add_ids_of-2.ensures) c.len.ensures.len in
    let small : (nat_le (row_count table) 999_999_999 && has_few_stops table) ≡ false =
    few_and (row_count table) 999_999_999 (has_few_stops table) (omega (arith, c.rows.ensures, c.if-rows-gt-ROW_LIMIT.false))
    ∙ not_few (length (ids_of_kind row_kinds.Stop table)) 1_000_000 (omega (arith, count, c.if-len-gt-STOP_LIMIT.true)) in
    rw c.new-then-len-gt-STOP_LIMIT.ensures (table_rest files.Stops (codes "stop_id" ∷ []) stop_tests has_few_stops table false there c.in_ok-test_rows.ensures.tests small)

-- how many stations there are
station_count : (table : Table) (keys : List (Bor (List ℕ))) → texts_in keys ≡ ids_of_kind row_kinds.Station table → length keys ≤ row_count table
station_count table keys held =
    let few = length-filter_rows (λ (row : ℕ). means row_kinds.Station (location_type table row)) table in
    let count : length keys ≡ length (rows_of_kind row_kinds.Station table) = sym (length-texts_in keys) ∙ ap length held ∙ length-map (rows_of_kind row_kinds.Station table) (stop_id table) in
    omega (arith, few, count)

pub returns-clause-tests : goal.returns-clause-tests
returns-clause-tests c =
    let table = c.args.sheet.now in
    let there = columns table (is_there c.args.columns.id (column_of table (codes "stop_id")) c.is_none.result c.requires.columns.id c.is_none.ensures c.if-is_none.false) in
    let count = stop_count table c.add_ids_of-2.new.ids.keys c.len.result (ids_are table row_kinds.Stop (texts_in c.add_ids_of-2.new.ids.keys) c.in_ok-test_rows.ensures.apart c.in_ok-add_ids_of-2.ensures) c.len.ensures.len in
    let small : (nat_le (row_count table) 999_999_999 && has_few_stops table) ≡ true =
    few_and (row_count table) 999_999_999 (has_few_stops table) (omega (arith, c.rows.ensures, c.if-rows-gt-ROW_LIMIT.false))
    ∙ is_few (length (ids_of_kind row_kinds.Stop table)) 1_000_000 (omega (arith, count, c.if-len-gt-STOP_LIMIT.false)) in
    table_rest files.Stops (codes "stop_id" ∷ []) stop_tests has_few_stops table true there c.in_ok-test_rows.ensures.tests small

pub returns-clause-ids : goal.returns-clause-ids
returns-clause-ids c =
    let table = c.args.sheet.now in
    record {
      all = c.in_ok-test_rows.ensures.ids;
      stops = ids_are table row_kinds.Stop (texts_in c.add_ids_of-2.new.ids.keys) c.in_ok-test_rows.ensures.apart c.in_ok-add_ids_of-2.ensures;
      stations = ids_are table row_kinds.Station (texts_in c.add_ids_of.new.ids.keys) c.in_ok-test_rows.ensures.apart c.in_ok-add_ids_of.ensures;
    }

pub returns-clause-few : goal.returns-clause-few
returns-clause-few c = omega (arith, c.len.ensures.len, c.if-len-gt-STOP_LIMIT.false)

pub returns-clause-few_stations : goal.returns-clause-few_stations
returns-clause-few_stations c =
    let table = c.args.sheet.now in
    let count = station_count table c.add_ids_of.new.ids.keys (ids_are table row_kinds.Station (texts_in c.add_ids_of.new.ids.keys) c.in_ok-test_rows.ensures.apart c.in_ok-add_ids_of.ensures) in
    omega (arith, count, c.rows.ensures, c.if-rows-gt-ROW_LIMIT.false)
