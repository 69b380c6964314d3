use Rattle.std.proofs.Common.{◌≡◌, ℕ, Some}
use Rattle.timetable.specs.Journeys.{foot}
use Rattle.stop_events.specs.Events.{Gathered}
use Rattle.stop_events.proofs.EventSteps.{SeenPositions}
use Rattle.stop_events.proofs.events.gather_at.Given as goal

abbrev pub invariant-loop-at : goal.invariant-loop-at
invariant-loop-at l = (s : ℕ) → foot l.table s l.fn.stop ≡ Some l.seconds
    → Gathered l.table s (SeenPositions l.lines l.fn.stop l.at-index) l.fn.moments.items l.moments.items
