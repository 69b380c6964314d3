use Rattle.std.proofs.Common.{ℕ, List, Option}
use Rattle.std.specs.Prelude.{option_map}
use Rattle.gtfs_rows.specs.declared.fault.FeedFile.TheVariants as files
use Rattle.gtfs_stops.specs.Stops.{lists_in}
use Rattle.file_faults.specs.Tables.{trips_faults, trips_known}
use Rattle.file_faults.proofs.ListFacts.{on-ok-then}
use Rattle.feed_faults.specs.Opened.{rest_faults}
use Rattle.feed_faults.proofs.FileFacts.{known-added}
use Rattle.feed_faults.proofs.feed.list_others.Goals as goal

pub returns : goal.returns
returns g c = λ feed trips calendar dates calls transfers starts.
    let opened = c.in_ok-sheet.ensures feed.trips (rw c.take.ensures.value trips) in
    on-ok-then c.list_from_trips.result (c.list_from_trips.ensures feed calendar dates calls transfers starts)
    (λ added. known-added {b = c.open.new.list} files.Trips trips_faults trips_known (λ (trips : Option (List (List ℕ))). rest_faults (option_map lists_in c.args.ids.now) trips feed) feed.trips c.in_ok-sheet.sheet opened added)
