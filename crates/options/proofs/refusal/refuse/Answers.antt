use Rattle.options.proofs.StatusFacts.{is_status}
use Rattle.options.proofs.refusal.refuse.Goals as goal

pub returns-then-status-eq7-clause-among : goal.returns-then-status-eq7-clause-among
returns-then-status-eq7-clause-among g c = λ kinds h. rw c.status_of-status.ensures (is_status kinds c.args.error.now h)

pub returns-else-status-eq7-clause-among : goal.returns-else-status-eq7-clause-among
returns-else-status-eq7-clause-among g c = λ kinds h. rw c.status_of-status.ensures (is_status kinds c.args.error.now h)
