use Rattle.std.proofs.Common.{◌≡◌, take}
use Rattle.timetable.specs.Journeys.{pattern}
use Rattle.pattern_query.proofs.answer.path_of.Given as goal

abbrev pub invariant-loop-leg : goal.invariant-loop-leg
invariant-loop-leg l = l.path.items ≡ pattern l.table (take l.leg-index l.legs.items)
