use Rattle.std.proofs.Common.{◌+◌, ◌-◌, ◌≤◌}
use Rattle.std.specs.List.{All}
use Rattle.timetable.specs.Journeys.{Reaches}
use Rattle.pattern_query.specs.Answer.{IsJourney}
use Rattle.rounds.specs.Scratch.{IsAlike, rides_of}
use Rattle.connections.specs.declared.connection.Connection.{Connection}
use Rattle.connections.specs.Connections.{AreConnectionsBefore}
use Rattle.connections.proofs.first.scan_first.Given as goal

-- the window is done before `next`
abbrev pub invariant-loop-next : goal.invariant-loop-next
invariant-loop-next l = record {
  same : IsAlike l.fn.scratch l.scratch;
  after : l.fn.window.first ≤ l.next;
  has : AreConnectionsBefore (Reaches l.network 0 (rides_of l.fn.scratch) l.fn.from l.fn.to) l.fn.window l.next l.connections.items;
  journeys : All (λ (c : Connection). IsJourney l.network l.fn.from l.fn.to c.departure c.journey) l.connections.items;
}

abbrev pub decreases-loop-next : goal.decreases-loop-next
decreases-loop-next l = l.fn.window.last + 1 - l.next
