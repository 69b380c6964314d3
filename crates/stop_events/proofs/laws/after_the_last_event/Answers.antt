use Rattle.stop_events.proofs.EventLaws.{no_event}
use Rattle.stop_events.proofs.laws.after_the_last_event.Goals as goal

pub returns : goal.returns
returns c = λ s t d z legs none some journey. no_event c.args._table.now s d legs t z none some journey
