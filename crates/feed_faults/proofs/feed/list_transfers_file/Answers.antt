use Rattle.std.proofs.Common.{None, Some}
use Rattle.std.specs.Prelude.{option_map}
use Rattle.gtfs_stops.specs.Stops.{lists_in}
use Rattle.gtfs_rows.specs.declared.fault.FeedFile.TheVariants as files
use Rattle.file_faults.specs.Tables.{transfers_faults}
use Rattle.file_faults.proofs.ListFacts.{adds-none, on-ok-then}
use Rattle.feed_faults.proofs.FileFacts.{optional-added}
use Rattle.feed_faults.proofs.feed.list_transfers_file.Goals as goal

pub returns-in-Some : goal.returns-in-Some
returns-in-Some g c = λ bytes content.
    let opened = rw c.in-Some.is at (c.in_ok-sheet.ensures bytes content) in
    on-ok-then c.list_transfers.result c.list_transfers.ensures (λ added. optional-added files.Transfers (transfers_faults (option_map lists_in c.args.ids.now)) bytes (Some c.in-Some.sheet) opened added)

pub returns-in-None : goal.returns-in-None
returns-in-None g c = λ bytes content.
    let opened = rw c.in-None.is at (c.in_ok-sheet.ensures bytes content) in
    optional-added files.Transfers (transfers_faults (option_map lists_in c.args.ids.now)) bytes None opened (adds-none c.open_if_there.new.list)
