use Rattle.file_faults.proofs.ListFacts.{adds-then, on-ok, on-ok-then}
use Rattle.file_faults.proofs.trips.list_ids.Goals as goal

pub returns-clause-list : goal.returns-clause-list
returns-clause-list c = on-ok-then c.add_size.result c.add_size.ensures.adds (λ added. adds-then c.in_ok-list_rows.ensures.list added)

pub returns-clause-ids : goal.returns-clause-ids
returns-clause-ids c = on-ok c.add_size.result c.in_ok-list_rows.ensures.ids
