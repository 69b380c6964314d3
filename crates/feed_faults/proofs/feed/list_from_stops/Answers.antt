use Rattle.std.proofs.Common.{ap, Option}
use Rattle.gtfs_stops.specs.Stops.{IdLists}
use Rattle.file_faults.proofs.ListFacts.{on-ok-then}
use Rattle.feed_faults.specs.Opened.{others_faults}
use Rattle.feed_faults.proofs.FileFacts.{all-is, sure, then-all}
use Rattle.feed_faults.proofs.feed.list_from_stops.Goals as goal

pub returns : goal.returns
returns g c = λ feed trips calendar dates calls transfers starts.
    on-ok-then c.list_others.result (c.list_others.ensures feed trips calendar dates calls transfers starts)
    (λ added. then-all {b = c.stop_ids.new.list} (sure c.in_ok-ids.ensures.list) (all-is (ap (λ (ids : Option IdLists). others_faults ids feed) c.in_ok-ids.ensures.ids) added))
