use Rattle.std.proofs.Common.{◌≡◌, take}
use Rattle.rounds.specs.Scratch.{IsMadeFor, rides_of}
use Rattle.travel_matrix.specs.Rows.{AreRows}
use Rattle.travel_matrix.proofs.rows.rows_in_turn.Given as goal

abbrev pub invariant-loop-origin : goal.invariant-loop-origin
invariant-loop-origin l = record {
  made : IsMadeFor l.scratch l.window.table.now;
  rides : rides_of l.scratch ≡ l.window.rides;
  rows : AreRows l.window.table.now l.window.rides l.window.first l.window.last l.goals (take l.origin-index l.origins) l.rows.items;
}
