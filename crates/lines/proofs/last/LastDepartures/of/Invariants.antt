use Rattle.std.proofs.Common.{◌≡◌, map, take}
use Rattle.lines.specs.Lines.{last_departure_at}
use Rattle.lines.proofs.last.LastDepartures.of.Given as goal

abbrev pub invariant-loop-at : goal.invariant-loop-at
invariant-loop-at l = l.row.items ≡ map (last_departure_at l.lines) (take l.at-index l.positions)
