use Rattle.stop_events.proofs.EventLaws.{next_event}
use Rattle.stop_events.proofs.laws.between_events.Goals as goal

pub returns : goal.returns
returns c = λ s t d e z legs none some journey. next_event c.args._table.now s d e legs t z none some journey
