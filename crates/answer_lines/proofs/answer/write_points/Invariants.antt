use Rattle.std.proofs.Common.{take, ◌∷◌}
use Rattle.std.specs.List.{flat_map}
use Rattle.std.specs.Fmt.{HasWritten, IsPlainFormatter}
use Rattle.answer_lines.specs.Printed.{point_text}
use Rattle.answer_lines.proofs.answer.write_points.Given as goal

abbrev pub invariant-loop-point : goal.invariant-loop-point
invariant-loop-point g l =
    IsPlainFormatter l.initial.f → HasWritten g.W.Write.write_str_gives l.initial.f (flat_map (λ p. 10 ∷ point_text p) (take l.point-index l.others)) l.f
