use Rattle.file_faults.proofs.ListFacts.{on-ok-then}
use Rattle.feed_faults.proofs.FileFacts.{then-all}
use Rattle.feed_faults.proofs.feed.list_linked.Goals as goal

pub returns : goal.returns
returns g c = λ feed calls transfers starts.
    let first = c.in_ok-list_calls_file.ensures feed.stop_times (rw c.take.ensures.value calls) in
    let second = c.in_ok-list_transfers_file.ensures feed.transfers (rw c.take-2.ensures.value transfers) in
    on-ok-then c.list_frequencies_file.result (c.list_frequencies_file.ensures feed.frequencies (rw c.take-3.ensures.value starts))
    (λ added. then-all {b = c.list_calls_file.new.list} first (then-all {b = c.list_transfers_file.new.list} {c = c.list_frequencies_file.new.list} second added))
