use Rattle.std.proofs.Common.{take, ◌∷◌}
use Rattle.std.specs.List.{flat_map}
use Rattle.std.specs.Fmt.{HasWritten, IsPlainFormatter}
use Rattle.answer_lines.specs.Printed.{stage_text}
use Rattle.connection_lines.proofs.connections.ConnectionDisplay.fmt.Given as goal

abbrev pub invariant-loop-stage : goal.invariant-loop-stage
invariant-loop-stage g l =
    IsPlainFormatter l.initial.f → HasWritten g.W.Write.write_str_gives l.initial.f (flat_map (λ s. 10 ∷ stage_text s) (take l.stage-index l.self.journey.stages.items)) l.f
