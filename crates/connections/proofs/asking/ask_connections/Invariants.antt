use Rattle.std.proofs.Common.{Option, ◌≡◌, ℕ, ◌+◌, get_or}
use Rattle.std.specs.List.{All}
use Rattle.pattern_query.specs.Questions.{IsAskedPoint}
use Rattle.connections.specs.declared.connection.Connection.{Connection}
use Rattle.connections.specs.Connections.{WalksLeast}
use Rattle.connections.specs.Found.{AreAfter, IsScope, Scope, points_in}
use Rattle.connections.proofs.FoundFacts.{HasFound}
use Rattle.connections.proofs.asking.ask_connections.Given as goal

-- the events from `index` on are done; `next` is the answer at the next of these
abbrev pub invariant-loop-index : goal.invariant-loop-index
invariant-loop-index g l = record {
  after : (scope : Option ℕ) (i : ℕ) → i + 1 ≡ l.index → IsScope l.network (g.T.Trees.held l.trees) l.froms scope
      → AreAfter (Scope l.network (g.T.Trees.held l.trees) l.froms l.tos scope) (get_or l.events.items i 0) (points_in l.next);
  points : All (λ (c : Connection). IsAskedPoint l.network (g.T.Trees.held l.trees) l.froms l.tos c.departure c.journey) l.found.items;
  last : All (WalksLeast l.network (g.T.Trees.held l.trees) l.froms l.tos) l.found.items;
  has : (scope : Option ℕ) → IsScope l.network (g.T.Trees.held l.trees) l.froms scope
      → HasFound (Scope l.network (g.T.Trees.held l.trees) l.froms l.tos scope) l.fn.window l.events.items l.index l.found.items;
}
