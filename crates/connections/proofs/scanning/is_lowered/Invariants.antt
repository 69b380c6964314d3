use Rattle.std.proofs.Common.{ℕ, ◌+◌, ◌<◌}
use Rattle.timetable.specs.Front.{IsSooner}
use Rattle.rounds.specs.Mark.{arrival_in, moment_in}
use Rattle.rounds.specs.Scratch.{rounds_of, before_of}
use Rattle.connections.proofs.scanning.is_lowered.Given as goal

abbrev pub invariant-loop-fewer : goal.invariant-loop-fewer
invariant-loop-fewer l = (r : ℕ) → r < l.fewer → IsSooner (arrival_in (rounds_of l.view) (r + 1) l.to) (moment_in (before_of l.view) (r + 1) l.to) → ⊥
