use Rattle.std.proofs.Common.{◌≡◌, ◌∙◌, sym, refl, arith, ℕ, ◌≤◌, true, List, [], ◌∷◌, codes}
use Rattle.std.specs.Prelude.{is_some}
use Rattle.std.specs.List.{list_all}
use Rattle.gtfs_text.specs.Sheets.{column_of, row_count}
use Rattle.gtfs_rows.specs.declared.fault.FeedFile.TheVariants as files
use Rattle.gtfs_rows.specs.Rows.{distinct, rows_of, texts_in}
use Rattle.gtfs_rows.proofs.RowFacts.{length-rows}
use Rattle.gtfs_services.specs.Trips.{trip_id, trip_ids, trip_tests}
use Rattle.file_faults.specs.Tables.{row_faults}
use Rattle.file_faults.proofs.TableFacts.{few-keys, fits-rows, if-then-some, known-if, lacking-added, sized-added, unknown-if}
use Rattle.file_faults.proofs.trips.list_trips.Goals as goal

abbrev names : List (List ℕ)
names = codes "trip_id" ∷ codes "service_id" ∷ []

pub returns-then-not-are_there-clause-list : goal.returns-then-not-are_there-clause-list
returns-then-not-are_there-clause-list c =
    let table = c.args.sheet.now in
    let same : c.are_there.result ≡ list_all (λ name. is_some (column_of table name)) names =
    c.are_there.ensures ∙ rw (c.trip_columns-columns.ensures.id, c.trip_columns-columns.ensures.service) refl in
    lacking-added files.Trips names true (row_faults (trip_tests table) (rows_of table)) [] table (sym same ∙ c.if-not-are_there.true) c.in_ok-add_lacking.ensures

pub returns-then-not-are_there-clause-ids : goal.returns-then-not-are_there-clause-ids
returns-then-not-are_there-clause-ids c =
    let table = c.args.sheet.now in
    let same : c.are_there.result ≡ list_all (λ name. is_some (column_of table name)) names =
    c.are_there.ensures ∙ rw (c.trip_columns-columns.ensures.id, c.trip_columns-columns.ensures.service) refl in
    unknown-if files.Trips names true table (distinct (trip_ids table)) (sym same ∙ c.if-not-are_there.true)

pub returns-clause-list : goal.returns-clause-list
returns-clause-list c =
    let table = c.args.sheet.now in
    let same : c.are_there.result ≡ list_all (λ name. is_some (column_of table name)) names =
    c.are_there.ensures ∙ rw (c.trip_columns-columns.ensures.id, c.trip_columns-columns.ensures.service) refl in
    sized-added files.Trips names true (row_faults (trip_tests table) (rows_of table)) table (sym same ∙ c.if-not-are_there.false) c.in_ok-fits.ensures.list

pub returns-clause-ids : goal.returns-clause-ids
returns-clause-ids c =
    let table = c.args.sheet.now in
    let same : c.are_there.result ≡ list_all (λ name. is_some (column_of table name)) names =
    c.are_there.ensures ∙ rw (c.trip_columns-columns.ensures.id, c.trip_columns-columns.ensures.service) refl in
    known-if (λ ids. texts_in ids.keys) c.in_ok-fits.fits c.list_ids.new.ids c.then_some.result files.Trips names true table (distinct (trip_ids table))
    (sym same ∙ c.if-not-are_there.false) c.then_some.ensures c.in_ok-fits.ensures.fits c.in_ok-fits.ensures.ids

pub returns-clause-few : goal.returns-clause-few
returns-clause-few c =
    let table = c.args.sheet.now in
    let ids = c.list_ids.new.ids in
    if-then-some _ c.in_ok-fits.fits ids c.then_some.result c.then_some.ensures (λ small.
    let few : row_count table ≤ 999_999_999 = fits-rows true table (sym c.in_ok-fits.ensures.fits ∙ small) in
    few-keys ids.keys (trip_id table) (rows_of table) 999_999_999 c.in_ok-fits.ensures.ids (omega (arith, length-rows table, few)))
