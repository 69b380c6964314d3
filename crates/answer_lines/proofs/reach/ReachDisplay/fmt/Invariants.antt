use Rattle.std.proofs.Common.{take}
use Rattle.std.specs.List.{flat_map}
use Rattle.std.specs.Fmt.{HasWritten, IsPlainFormatter}
use Rattle.answer_lines.specs.Reaches.{reached_line}
use Rattle.answer_lines.proofs.reach.ReachDisplay.fmt.Given as goal

abbrev pub invariant-loop-reached : goal.invariant-loop-reached
invariant-loop-reached g l =
    IsPlainFormatter l.initial.f
    → HasWritten g.W.Write.write_str_gives l.initial.f (flat_map reached_line (take l.reached-index l.self.stops.items)) l.f
