use Rattle.std.proofs.Common.{◌≡◌, ◌∙◌, sym, refl, ℕ, true, List, []}
use Rattle.std.specs.Prelude.{is_some, option_map}
use Rattle.std.specs.List.{list_all}
use Rattle.gtfs_text.specs.Sheets.{column_of}
use Rattle.gtfs_rows.specs.declared.fault.FeedFile.TheVariants as files
use Rattle.gtfs_rows.specs.Rows.{texts_in}
use Rattle.gtfs_frequencies.specs.Frequencies.{column_names}
use Rattle.file_faults.specs.Tables.{start_rows}
use Rattle.file_faults.proofs.ListFacts.{on-ok-then}
use Rattle.file_faults.proofs.TableFacts.{lacking-added, plain-added}
use Rattle.file_faults.proofs.links.list_frequencies.Goals as goal

abbrev names : List (List ℕ)
names = column_names

pub returns-then-not-are_there : goal.returns-then-not-are_there
returns-then-not-are_there c =
    let table = c.args.sheet.now in
    let same : c.are_there.result ≡ list_all (λ name. is_some (column_of table name)) names =
    c.are_there.ensures ∙ rw (c.frequency_columns-columns.ensures.trip, c.frequency_columns-columns.ensures.start, c.frequency_columns-columns.ensures.end, c.frequency_columns-columns.ensures.headway) refl in
    on-ok-then c.add_lacking.result c.add_lacking.ensures
    (lacking-added files.Frequencies names true (start_rows (option_map (λ ids. texts_in ids.keys) c.args.trips.now) table) [] table (sym same ∙ c.if-not-are_there.true))

pub returns : goal.returns
returns c =
    let table = c.args.sheet.now in
    let same : c.are_there.result ≡ list_all (λ name. is_some (column_of table name)) names =
    c.are_there.ensures ∙ rw (c.frequency_columns-columns.ensures.trip, c.frequency_columns-columns.ensures.start, c.frequency_columns-columns.ensures.end, c.frequency_columns-columns.ensures.headway) refl in
    plain-added files.Frequencies names true (start_rows (option_map (λ ids. texts_in ids.keys) c.args.trips.now) table) table (sym same ∙ c.if-not-are_there.false)
    c.in_ok-list_known.ensures c.in_ok-add_size.ensures.adds
