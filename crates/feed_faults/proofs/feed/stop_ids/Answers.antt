use Rattle.std.proofs.Common.{sym, ap}
use Rattle.feed_faults.specs.Opened.{sheet_faults}
use Rattle.file_faults.specs.Tables.{stops_faults}
use Rattle.file_faults.proofs.ListFacts.{adds-is, adds-none}
use Rattle.feed_faults.proofs.feed.stop_ids.Goals as goal

pub returns-in-None-clause-list : goal.returns-in-None-clause-list
returns-in-None-clause-list c = adds-is (sym (ap (sheet_faults stops_faults) c.in-None.is)) (adds-none c.args.list.now)
