use Rattle.std.proofs.Common.{◌≡◌, ◌∙◌, sym, refl, ℕ, true, List, [], ◌∷◌, codes}
use Rattle.std.specs.Prelude.{is_some, option_map}
use Rattle.std.specs.List.{list_all}
use Rattle.gtfs_text.specs.Sheets.{column_of}
use Rattle.gtfs_rows.specs.declared.fault.FeedFile.TheVariants as files
use Rattle.gtfs_stops.specs.Stops.{lists_in}
use Rattle.file_faults.specs.Tables.{transfer_rows}
use Rattle.file_faults.proofs.ListFacts.{on-ok-then}
use Rattle.file_faults.proofs.TableFacts.{lacking-added, plain-added}
use Rattle.file_faults.proofs.links.list_transfers.Goals as goal

abbrev names : List (List ℕ)
names = codes "from_stop_id" ∷ codes "to_stop_id" ∷ []

pub returns-then-not-are_there : goal.returns-then-not-are_there
returns-then-not-are_there c =
    let table = c.args.sheet.now in
    let same : c.are_there.result ≡ list_all (λ name. is_some (column_of table name)) names =
    c.are_there.ensures ∙ rw (c.transfer_columns-columns.ensures.from, c.transfer_columns-columns.ensures.to) refl in
    on-ok-then c.add_lacking.result c.add_lacking.ensures
    (lacking-added files.Transfers names true (transfer_rows (option_map lists_in c.args.ids.now) table) [] table (sym same ∙ c.if-not-are_there.true))

pub returns : goal.returns
returns c =
    let table = c.args.sheet.now in
    let same : c.are_there.result ≡ list_all (λ name. is_some (column_of table name)) names =
    c.are_there.ensures ∙ rw (c.transfer_columns-columns.ensures.from, c.transfer_columns-columns.ensures.to) refl in
    plain-added files.Transfers names true (transfer_rows (option_map lists_in c.args.ids.now) table) table (sym same ∙ c.if-not-are_there.false)
    c.in_ok-list_linked.ensures c.in_ok-add_size.ensures.adds
