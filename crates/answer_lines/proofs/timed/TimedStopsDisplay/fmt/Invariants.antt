use Rattle.std.proofs.Common.{take}
use Rattle.std.specs.List.{flat_map}
use Rattle.std.specs.Fmt.{HasWritten, IsPlainFormatter}
use Rattle.answer_lines.specs.Timed.{timed_line}
use Rattle.answer_lines.proofs.timed.TimedStopsDisplay.fmt.Given as goal

abbrev pub invariant-loop-timed : goal.invariant-loop-timed
invariant-loop-timed g l =
    IsPlainFormatter l.initial.f
    → HasWritten g.W.Write.write_str_gives l.initial.f (flat_map timed_line (take l.timed-index l.self.stops.items)) l.f
