use Rattle.std.proofs.Common.{Option}
use Rattle.gtfs_rows.specs.declared.fault.FeedFile.TheVariants as files
use Rattle.gtfs_stops.specs.Stops.{IdLists}
use Rattle.file_faults.specs.Tables.{ids_known, stops_faults}
use Rattle.file_faults.proofs.ListFacts.{on-ok-then}
use Rattle.feed_faults.specs.Files.{faults_of}
use Rattle.feed_faults.specs.Opened.{others_faults}
use Rattle.feed_faults.proofs.FileFacts.{known-added}
use Rattle.feed_faults.proofs.feed.list_files.Goals as goal

pub returns : goal.returns
unfolding faults_of
returns g c = λ feed readers.
    let opened = c.in_ok-sheet.ensures feed.stops (rw c.take.ensures.value readers.stops) in
    on-ok-then c.list_from_stops.result (c.list_from_stops.ensures feed readers.trips readers.calendar readers.calendar_dates readers.stop_times readers.transfers readers.frequencies)
    (λ added. known-added {b = c.open.new.list} files.Stops stops_faults ids_known (λ (ids : Option IdLists). others_faults ids feed) feed.stops c.in_ok-sheet.sheet opened added)
