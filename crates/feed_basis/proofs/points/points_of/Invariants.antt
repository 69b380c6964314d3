use Rattle.std.proofs.Common.{take}
use Rattle.std.specs.List.{AllZip}
use Rattle.feed_basis.specs.Points.{TellsNumbers}
use Rattle.feed_basis.proofs.points.points_of.Given as goal

-- each of the numbers so far is shown
abbrev pub invariant-loop-numbers : goal.invariant-loop-numbers
invariant-loop-numbers l = AllZip (TellsNumbers l.basis) (take l.numbers-index l.front) l.points.items
