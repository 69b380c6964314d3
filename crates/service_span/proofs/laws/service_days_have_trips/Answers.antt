use Rattle.service_span.proofs.TripFacts as facts
use Rattle.service_span.proofs.laws.service_days_have_trips.Goals as goal

pub returns : goal.returns
returns c = facts.service_days_have_trips
