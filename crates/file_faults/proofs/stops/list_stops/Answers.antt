use Rattle.std.proofs.Common.{◌≡◌, ◌∙◌, sym, ap, refl, arith, ℕ, ◌≤◌, List, [], ◌∷◌, codes, length}
use Rattle.std.specs.Prelude.{is_some}
use Rattle.std.specs.List.{list_all}
use Rattle.std.proofs.lemmas.Bool.{leb-true}
use Rattle.gtfs_text.specs.Sheets.{column_of, row_count}
use Rattle.gtfs_rows.specs.declared.fault.FeedFile.TheVariants as files
use Rattle.gtfs_rows.specs.Rows.{rows_of}
use Rattle.gtfs_rows.proofs.RowFacts.{length-filter_rows}
use Rattle.gtfs_rows.proofs.TextFacts.{length-texts_in}
use Rattle.gtfs_stops.specs.declared.stops.RowKind.TheVariants as row_kinds
use Rattle.gtfs_stops.specs.Stops.{IdLists, lists_in, location_type, means, rows_of_kind, stop_id, stop_tests}
use Rattle.file_faults.specs.Tables.{distinct_ids, has_few_ids, row_faults}
use Rattle.file_faults.proofs.TableFacts.{few-keys, fits-rows, fits-small, if-then-some, known-if, lacking-added, sized-added, unknown-if}
use Rattle.file_faults.proofs.stops.list_stops.Goals as goal

abbrev names : List (List ℕ)
names = codes "stop_id" ∷ []

pub returns-then-not-are_there-clause-list : goal.returns-then-not-are_there-clause-list
returns-then-not-are_there-clause-list c =
    let table = c.args.sheet.now in
    let same : c.are_there.result ≡ list_all (λ name. is_some (column_of table name)) names = c.are_there.ensures ∙ rw c.stop_columns-columns.ensures.id refl in
    lacking-added files.Stops names (has_few_ids table) (row_faults (stop_tests table) (rows_of table)) [] table (sym same ∙ c.if-not-are_there.true) c.in_ok-add_lacking.ensures

pub returns-then-not-are_there-clause-ids : goal.returns-then-not-are_there-clause-ids
returns-then-not-are_there-clause-ids c =
    let table = c.args.sheet.now in
    let same : c.are_there.result ≡ list_all (λ name. is_some (column_of table name)) names = c.are_there.ensures ∙ rw c.stop_columns-columns.ensures.id refl in
    unknown-if files.Stops names (has_few_ids table) table (distinct_ids table) (sym same ∙ c.if-not-are_there.true)

pub returns-clause-list : goal.returns-clause-list
returns-clause-list c =
    let table = c.args.sheet.now in
    let same : c.are_there.result ≡ list_all (λ name. is_some (column_of table name)) names = c.are_there.ensures ∙ rw c.stop_columns-columns.ensures.id refl in
    sized-added files.Stops names (has_few_ids table) (row_faults (stop_tests table) (rows_of table)) table (sym same ∙ c.if-not-are_there.false) c.in_ok-fits.ensures.list

pub returns-clause-ids : goal.returns-clause-ids
returns-clause-ids c =
    let table = c.args.sheet.now in
    let same : c.are_there.result ≡ list_all (λ name. is_some (column_of table name)) names = c.are_there.ensures ∙ rw c.stop_columns-columns.ensures.id refl in
    known-if lists_in c.in_ok-fits.fits c.list_ids.new.ids c.then_some.result files.Stops names (has_few_ids table) table (distinct_ids table)
    (sym same ∙ c.if-not-are_there.false) c.then_some.ensures c.in_ok-fits.ensures.fits c.in_ok-fits.ensures.ids

pub returns-clause-few : goal.returns-clause-few
returns-clause-few c =
    let table = c.args.sheet.now in
    let ids = c.list_ids.new.ids in
    if-then-some _ c.in_ok-fits.fits ids c.then_some.result c.then_some.ensures (λ small.
    let few : length (distinct_ids table).stops ≤ 1_000_000 = leb-true (length (distinct_ids table).stops) 1_000_000 (fits-small (has_few_ids table) table (sym c.in_ok-fits.ensures.fits ∙ small)) in
    let same : length ids.stops.keys ≡ length (distinct_ids table).stops = sym (length-texts_in ids.stops.keys) ∙ ap (λ (ids : IdLists). length ids.stops) c.in_ok-fits.ensures.ids in
    omega (arith, few, same))

pub returns-clause-few_stations : goal.returns-clause-few_stations
returns-clause-few_stations c =
    let table = c.args.sheet.now in
    let ids = c.list_ids.new.ids in
    if-then-some _ c.in_ok-fits.fits ids c.then_some.result c.then_some.ensures (λ small.
    let few : row_count table ≤ 999_999_999 = fits-rows (has_few_ids table) table (sym c.in_ok-fits.ensures.fits ∙ small) in
    few-keys ids.stations.keys (stop_id table) (rows_of_kind row_kinds.Station table) 999_999_999 (ap (λ (ids : IdLists). ids.stations) c.in_ok-fits.ensures.ids)
    (omega (arith, length-filter_rows (λ row. means row_kinds.Station (location_type table row)) table, few)))
