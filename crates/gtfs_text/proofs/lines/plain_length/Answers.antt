use Rattle.gtfs_text.proofs.PlainBytes.{first_of_them}
use Rattle.gtfs_text.proofs.lines.plain_length.Goals as goal

pub returns-clause-within : goal.returns-clause-within
returns-clause-within c = rw c.unwrap_or.ensures (first_of_them c.args.bytes.now c.memchr3.result c.memchr3.ensures).0

pub returns-clause-plain : goal.returns-clause-plain
returns-clause-plain c = rw c.unwrap_or.ensures (first_of_them c.args.bytes.now c.memchr3.result c.memchr3.ensures).1
