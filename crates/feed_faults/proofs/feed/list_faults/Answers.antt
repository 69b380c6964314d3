use Rattle.feed_faults.specs.Files.{faults_of}
use Rattle.feed_faults.proofs.FileFacts.{lists-added}
use Rattle.feed_faults.proofs.feed.list_faults.Goals as goal

pub returns : goal.returns
returns g c = λ feed readers. lists-added c.new-list.result c.list_files.new.list (faults_of feed) c.new-list.ensures.faults (c.in_ok-list_files.ensures feed readers)
