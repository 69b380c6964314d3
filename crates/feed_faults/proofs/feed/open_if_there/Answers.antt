use Rattle.feed_faults.proofs.FileFacts.{not-there, opened-there}
use Rattle.feed_faults.proofs.feed.open_if_there.Goals as goal

pub returns-in-Some : goal.returns-in-Some
returns-in-Some g c = λ bytes content.
    let there = rw c.in-Some.is at content in
    opened-there g.R.Read.remaining c.in-Some.reader bytes c.args.file c.args.list.now _ c.open.result there (c.open.ensures bytes there)

pub returns-in-None : goal.returns-in-None
returns-in-None g c = λ bytes content. not-there g.R.Read.remaining bytes c.args.file c.args.list.now (rw c.in-None.is at content)
