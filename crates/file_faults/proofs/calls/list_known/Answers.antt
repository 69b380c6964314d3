use Rattle.file_faults.proofs.ListFacts.{adds-then, on-ok-then}
use Rattle.file_faults.proofs.calls.list_known.Goals as goal

pub returns : goal.returns
returns c = on-ok-then c.list_rest.result c.list_rest.ensures (λ added. adds-then c.in_ok-list_rows.ensures added)
