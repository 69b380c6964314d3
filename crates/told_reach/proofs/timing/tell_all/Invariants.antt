use Rattle.std.proofs.Common.{take}
use Rattle.std.specs.List.{AllZip}
use Rattle.told_reach.specs.Times.{TellsTimes}
use Rattle.told_reach.proofs.timing.tell_all.Given as goal

abbrev pub invariant-loop-times : goal.invariant-loop-times
invariant-loop-times l = AllZip (TellsTimes l.basis) (take l.times-index l.list) l.stops.items
