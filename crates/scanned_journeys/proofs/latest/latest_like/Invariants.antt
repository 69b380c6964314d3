use Rattle.std.proofs.Common.{ℕ}
use Rattle.timetable.specs.Journeys.{Reaches, Unbeaten}
use Rattle.pattern_query.specs.Answer.{numbers, IsJourney}
use Rattle.rounds.specs.Scratch.{IsAlike, rides_of}
use Rattle.scanned_journeys.proofs.LatestFacts.{IsLikeSince}
use Rattle.scanned_journeys.proofs.latest.latest_like.Given as goal

-- the events before the index are no later than the departure
abbrev pub invariant-loop-event : goal.invariant-loop-event
invariant-loop-event l = record {
  same : IsAlike l.fn.scratch l.scratch;
  like : (d : ℕ) → IsJourney l.network l.from l.to d l.point → Unbeaten (Reaches l.network 0 (rides_of l.fn.scratch) l.from l.to d) (numbers l.point)
      → IsLikeSince l.network l.from l.to d l.events l.event-index l.point l.last;
}
