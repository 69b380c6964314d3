use Rattle.std.proofs.Common.{ap, ℕ, List, Option}
use Rattle.std.specs.Prelude.{option_map}
use Rattle.gtfs_stops.specs.Stops.{lists_in}
use Rattle.file_faults.proofs.ListFacts.{on-ok-then}
use Rattle.feed_faults.specs.Opened.{linked_faults}
use Rattle.feed_faults.proofs.FileFacts.{all-is, sure, then-all}
use Rattle.feed_faults.proofs.feed.list_from_trips.Goals as goal

pub returns : goal.returns
returns g c = λ feed calendar dates calls transfers starts.
    let services = c.in_ok-list_services.ensures feed.calendar feed.calendar_dates (rw c.take.ensures.value calendar) (rw c.take-2.ensures.value dates) in
    on-ok-then c.list_linked.result (c.list_linked.ensures feed calls transfers starts)
    (λ added. then-all {b = c.trip_ids.new.list} (sure c.in_ok-known.ensures.list) (then-all {b = c.list_services.new.list} services
    (all-is (ap (λ (trips : Option (List (List ℕ))). linked_faults (option_map lists_in c.args.ids.now) trips feed) c.in_ok-known.ensures.ids) added)))
