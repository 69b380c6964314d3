use Rattle.std.proofs.Common.{◌≡◌, ◌≤◌, ◌++◌, drop}
use Rattle.feed_basis.specs.Stages.{stages_of}
use Rattle.feed_basis.proofs.numbered.numbered_stages.Given as goal
use Rattle.timetable.specs.declared.parts.TheConstants.{LATEST_MOMENT}

-- the stages so far, and those of the legs that are left, are all of them
abbrev pub invariant-loop-leg : goal.invariant-loop-leg
invariant-loop-leg l =
    (l.stages.items ++ stages_of l.table l.stop l.at (drop l.leg-index l.legs) l.to ≡ stages_of l.table l.fn.from l.depart l.legs l.to)
    × (l.at ≤ LATEST_MOMENT)
