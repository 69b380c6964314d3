use Rattle.std.proofs.Common.{◌≡◌, ℕ, ◌+◌, ◌<◌, get_or}
use Rattle.std.specs.List.{All}
use Rattle.timetable.specs.Journeys.{Reaches}
use Rattle.pattern_query.specs.Answer.{IsJourney}
use Rattle.connections.specs.declared.connection.Connection.{Connection}
use Rattle.rounds.specs.Scratch.{IsAlike, MayGoOn, rides_of, source_of, kept_of}
use Rattle.connections.specs.Found.{AreLeastAt}
use Rattle.connections.proofs.FoundFacts.{HasFound}
use Rattle.connections.proofs.scanning.scan_connections.Given as goal

-- the events from `index` on are done; the scratch has the rounds of the next of these
abbrev pub invariant-loop-index : goal.invariant-loop-index
invariant-loop-index l = record {
  same : IsAlike l.fn.scratch l.scratch;
  from : source_of l.scratch ≡ l.fn.from;
  may : (i : ℕ) → i < l.index → MayGoOn l.network (get_or l.events.items i 0) l.scratch;
  later : (i : ℕ) → i + 1 ≡ l.index → AreLeastAt l.network (rides_of l.fn.scratch) l.fn.from (get_or l.events.items i 0 + 1) (kept_of l.scratch);
  has : HasFound (Reaches l.network 0 (rides_of l.fn.scratch) l.fn.from l.fn.to) l.fn.window l.events.items l.index l.found.items;
  journeys : All (λ (c : Connection). IsJourney l.network l.fn.from l.fn.to c.departure c.journey) l.found.items;
}
