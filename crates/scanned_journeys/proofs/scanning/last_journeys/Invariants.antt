use Rattle.std.proofs.Common.{◌≡◌, ℕ, ◌<◌, map, get_or}
use Rattle.std.specs.List.{All}
use Rattle.timetable.specs.Journeys.{Reaches}
use Rattle.rounds.specs.Scratch.{IsMadeFor, rides_of}
use Rattle.pattern_query.specs.Answer.{PointData, numbers, IsJourney}
use Rattle.pattern_query.specs.Leaving.{IsLatest, LeavesLast}
use Rattle.scanned_journeys.proofs.scanning.last_journeys.Given as goal

abbrev pub invariant-loop-index : goal.invariant-loop-index
invariant-loop-index l = record {
  made : IsMadeFor l.scratch l.network;
  rides : rides_of l.scratch ≡ rides_of l.fn.scratch;
  journeys : All (IsJourney l.network l.from l.to l.depart) l.answer;
  alike : map numbers l.answer ≡ map numbers l.initial.answer;
  latest : (i : ℕ) (p : PointData) → i < l.index → IsLatest (Reaches l.network 0 (rides_of l.fn.scratch) l.from l.to) (get_or l.answer i p);
  last : (i : ℕ) (p : PointData) → i < l.index → LeavesLast l.network (IsJourney l.network l.from l.to l.depart) (get_or l.answer i p);
}
