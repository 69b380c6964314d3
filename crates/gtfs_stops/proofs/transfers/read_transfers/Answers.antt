use Rattle.std.proofs.Common.{◌≡◌, refl, arith, Bool, true, false, [], ◌∷◌, codes, length, not, ◌≤◌}
use Rattle.std.specs.Prelude.{is_some}
use Rattle.std.specs.List.{list_all}
use Rattle.std.proofs.lemmas.Result.{err_from_is_err_and}
use Rattle.gtfs_text.specs.Sheets.{Table, column_of, row_count}
use Rattle.gtfs_rows.specs.declared.fault.FeedFile.TheVariants as files
use Rattle.gtfs_stops.specs.declared.transfers.TransferColumns.{TransferColumns}
use Rattle.gtfs_rows.specs.Rows.{rows_of}
use Rattle.gtfs_stops.specs.Stops.{lists_in}
use Rattle.gtfs_stops.specs.Transfers.{transfer_tests, kept_transfer, AreTransferColumns}
use Rattle.gtfs_rows.proofs.RowFacts.{is_there, table_rest, table_row_fault, too_many, few_and, length-rows}
use Rattle.gtfs_stops.proofs.TransferFacts.{kept_length}
use Rattle.gtfs_stops.proofs.transfers.read_transfers.Goals as goal

columns : (table : Table) (c : TransferColumns) (a b : Bool) → AreTransferColumns table c → is_some c.from ≡ not a → is_some c.to ≡ not b → a ≡ false → b ≡ false
    → list_all (λ name. is_some (column_of table name)) (codes "from_stop_id" ∷ codes "to_stop_id" ∷ []) ≡ true
columns table c a b are ia ib ea eb = rw (is_there c.from (column_of table (codes "from_stop_id")) a are.from ia ea, is_there c.to (column_of table (codes "to_stop_id")) b are.to ib eb) refl

pub returns-in_err-rows-clause-transfers : goal.returns-in_err-rows-clause-transfers
returns-in_err-rows-clause-transfers c =
    let p = err_from_is_err_and c.from_residual.result c.from_residual.ensures.1 in
    let there = columns c.args.sheet.now c.transfer_columns-columns.result c.is_none.result c.is_none-else-is_none.result c.transfer_columns-columns.ensures c.is_none.ensures c.is_none-else-is_none.ensures c.if-is_none.false c.if-is_none-2.false in
    let f = c.in_err-rows.field-0.0 in
    rw (p.1, p.2) (table_row_fault files.Transfers (codes "from_stop_id" ∷ codes "to_stop_id" ∷ []) (transfer_tests (lists_in c.args.ids.now)) (λ _. true) c.args.sheet.now f.kind f there c.in_err-rows.ensures.transfers)

pub returns-then-rows-gt-ROW_LIMIT-clause-transfers : goal.returns-then-rows-gt-ROW_LIMIT-clause-transfers
returns-then-rows-gt-ROW_LIMIT-clause-transfers c =
    let there = columns c.args.sheet.now c.transfer_columns-columns.result c.is_none.result c.is_none-else-is_none.result c.transfer_columns-columns.ensures c.is_none.ensures c.is_none-else-is_none.ensures c.if-is_none.false c.if-is_none-2.false in
    let small = too_many (row_count c.args.sheet.now) 999_999_999 true (omega (arith, c.rows.ensures, c.if-rows-gt-ROW_LIMIT.true)) in
    rw c.new-then-rows-gt-ROW_LIMIT.ensures (table_rest files.Transfers (codes "from_stop_id" ∷ codes "to_stop_id" ∷ []) (transfer_tests (lists_in c.args.ids.now)) (λ _. true) c.args.sheet.now false there c.in_ok-rows.ensures.transfers.0 small)

pub returns-clause-transfers : goal.returns-clause-transfers
returns-clause-transfers c =
    let there = columns c.args.sheet.now c.transfer_columns-columns.result c.is_none.result c.is_none-else-is_none.result c.transfer_columns-columns.ensures c.is_none.ensures c.is_none-else-is_none.ensures c.if-is_none.false c.if-is_none-2.false in
    let small = few_and (row_count c.args.sheet.now) 999_999_999 true (omega (arith, c.rows.ensures, c.if-rows-gt-ROW_LIMIT.false)) in
    (table_rest files.Transfers (codes "from_stop_id" ∷ codes "to_stop_id" ∷ []) (transfer_tests (lists_in c.args.ids.now)) (λ _. true) c.args.sheet.now true there c.in_ok-rows.ensures.transfers.0 small, c.in_ok-rows.ensures.transfers.1)

pub returns-clause-few : goal.returns-clause-few
returns-clause-few c =
    let count : length c.in_ok-rows.rows.transfers.items ≤ length (rows_of c.args.sheet.now) = rw c.in_ok-rows.ensures.transfers.1 (kept_length (kept_transfer (lists_in c.args.ids.now) c.args.sheet.now) (rows_of c.args.sheet.now)) in
    omega (arith, count, length-rows c.args.sheet.now, c.rows.ensures, c.if-rows-gt-ROW_LIMIT.false)
