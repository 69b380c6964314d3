use Rattle.std.proofs.Common.{take}
use Rattle.std.specs.List.{AllZip}
use Rattle.told_reach.specs.Reaches.{TellsStop}
use Rattle.told_reach.proofs.telling.tell_stops.Given as goal

abbrev pub invariant-loop-reached : goal.invariant-loop-reached
invariant-loop-reached l = AllZip (TellsStop l.basis l.depart) (take l.reached-index l.list) l.stops.items
