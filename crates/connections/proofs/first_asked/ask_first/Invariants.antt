use Rattle.std.proofs.Common.{Option, ℕ, ◌+◌, ◌-◌, ◌≤◌}
use Rattle.std.specs.List.{All}
use Rattle.pattern_query.specs.Questions.{IsAskedPoint}
use Rattle.connections.specs.declared.connection.Connection.{Connection}
use Rattle.connections.specs.Connections.{AreConnectionsBefore, WalksLeast}
use Rattle.connections.specs.Found.{IsScope, Scope}
use Rattle.connections.proofs.first_asked.ask_first.Given as goal

-- the window is done before `next`
abbrev pub invariant-loop-next : goal.invariant-loop-next
invariant-loop-next g l = record {
  after : l.fn.window.first ≤ l.next;
  has : (scope : Option ℕ) → IsScope l.network (g.T.Trees.held l.trees) l.froms scope
      → AreConnectionsBefore (Scope l.network (g.T.Trees.held l.trees) l.froms l.tos scope) l.fn.window l.next l.connections.items;
  points : All (λ (c : Connection). IsAskedPoint l.network (g.T.Trees.held l.trees) l.froms l.tos c.departure c.journey) l.connections.items;
  last : All (WalksLeast l.network (g.T.Trees.held l.trees) l.froms l.tos) l.connections.items;
}

abbrev pub decreases-loop-next : goal.decreases-loop-next
decreases-loop-next g l = l.fn.window.last + 1 - l.next
