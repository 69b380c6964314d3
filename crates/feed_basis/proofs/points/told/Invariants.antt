use Rattle.std.proofs.Common.{take}
use Rattle.std.specs.List.{AllZip}
use Rattle.feed_basis.specs.Points.{TellsLeaving}
use Rattle.feed_basis.proofs.points.told.Given as goal

-- each of the journeys so far is reported
abbrev pub invariant-loop-journey : goal.invariant-loop-journey
invariant-loop-journey l = AllZip (TellsLeaving l.basis l.wanted) (take l.journey-index l.journeys) l.points.items
