use Rattle.std.proofs.Common.{◌≡◌, ℕ, Some, slice_get}
use Rattle.timetable.specs.Journeys.{foot}
use Rattle.lines.specs.declared.line.Halt.{Halt}
use Rattle.stop_events.specs.Events.{Gathered}
use Rattle.stop_events.proofs.EventSteps.{SeenMembers}
use Rattle.stop_events.proofs.events.gather.Given as goal

abbrev pub invariant-loop-times : goal.invariant-loop-times
invariant-loop-times l = (s : ℕ) (halt : Halt) → slice_get l.line.halts l.position ≡ Some halt → foot l.table s halt.stop ≡ Some l.seconds
    → Gathered l.table s (SeenMembers l.line l.position l.times-index) l.fn.moments.items l.moments.items
