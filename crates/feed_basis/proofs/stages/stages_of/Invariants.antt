use Rattle.std.proofs.Common.{take}
use Rattle.std.specs.List.{AllZip}
use Rattle.feed_basis.specs.Stages.{TellsStage}
use Rattle.feed_basis.proofs.stages.stages_of.Given as goal

-- each of the stages so far is reported
abbrev pub invariant-loop-stage : goal.invariant-loop-stage
invariant-loop-stage l = AllZip (TellsStage l.basis) (take l.stage-index l.numbered) l.stages.items
