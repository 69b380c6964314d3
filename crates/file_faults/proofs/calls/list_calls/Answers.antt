use Rattle.std.proofs.Common.{◌≡◌, ◌∙◌, sym, refl, ℕ, true, false, List, [], ◌∷◌, Option, Some, None}
use Rattle.std.specs.Prelude.{is_some, option_map}
use Rattle.std.specs.List.{list_all}
use Rattle.gtfs_text.specs.Sheets.{Table, column_of}
use Rattle.gtfs_rows.specs.declared.fault.FaultKind.TheVariants as kinds
use Rattle.gtfs_rows.specs.declared.fault.FeedFile.TheVariants as files
use Rattle.gtfs_rows.specs.Faults.{fault_at}
use Rattle.gtfs_rows.specs.Rows.{rows_of, texts_in}
use Rattle.gtfs_stops.specs.Stops.{IdLists, lists_in}
use Rattle.file_faults.specs.Lists.{Adds}
use Rattle.file_faults.specs.Tables.{call_columns, call_row_tests, row_faults, stop_times_faults, trip_faults}
use Rattle.file_faults.specs.declared.list.FaultList.{FaultList}
use Rattle.file_faults.proofs.ListFacts.{on-ok-then}
use Rattle.file_faults.proofs.TableFacts.{lacking-added}
use Rattle.file_faults.proofs.calls.list_calls.Goals as goal

lacking : {a b : FaultList} (ids : Option IdLists) (trips : Option (List (List ℕ))) (table : Table)
    → list_all (λ name. is_some (column_of table name)) call_columns ≡ false → Adds a b (fault_at kinds.MissingColumn files.StopTimes 0 ∷ [])
    → Adds a b (stop_times_faults ids trips table)
lacking None trips table lacks added = lacking-added files.StopTimes call_columns true [] [] table lacks added
lacking (Some ids) None table lacks added = lacking-added files.StopTimes call_columns true [] [] table lacks added
lacking (Some ids) (Some trips) table lacks added =
    lacking-added files.StopTimes call_columns true (row_faults (call_row_tests ids.stops trips table) (rows_of table)) (trip_faults ids.stops trips table) table lacks added

pub returns-then-not-are_there : goal.returns-then-not-are_there
returns-then-not-are_there c =
    let table = c.args.sheet.now in
    let same : c.are_there.result ≡ list_all (λ name. is_some (column_of table name)) call_columns =
    c.are_there.ensures ∙ rw (c.call_columns-columns.ensures.trip, c.call_columns-columns.ensures.stop, c.call_columns-columns.ensures.sequence) refl in
    on-ok-then c.add_lacking.result c.add_lacking.ensures
    (lacking (option_map lists_in c.args.ids.now) (option_map (λ ids. texts_in ids.keys) c.args.trips.now) table (sym same ∙ c.if-not-are_there.true))
