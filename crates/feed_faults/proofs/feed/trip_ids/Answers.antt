use Rattle.std.proofs.Common.{sym, ap}
use Rattle.feed_faults.specs.Opened.{sheet_faults}
use Rattle.file_faults.specs.Tables.{trips_faults}
use Rattle.file_faults.proofs.ListFacts.{adds-is, adds-none}
use Rattle.feed_faults.proofs.feed.trip_ids.Goals as goal

pub returns-in-None-clause-list : goal.returns-in-None-clause-list
returns-in-None-clause-list c = adds-is (sym (ap (sheet_faults trips_faults) c.in-None.is)) (adds-none c.args.list.now)
