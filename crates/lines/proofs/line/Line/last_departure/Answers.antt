use Rattle.std.proofs.Common.{◌-◌, List, length, get_or, ap}
use Rattle.lines.specs.declared.line.Times.{Times}
use Rattle.lines.proofs.line.Line.last_departure.Goals as goal

pub returns-clause-value : goal.returns-clause-value
returns-clause-value c = ap (λ (ts : List Times). (get_or ts (length ts - 1) (record { arrival = 0; departure = 0 })).departure) c.times_at-times.ensures.value
