use Rattle.std.proofs.Common.{◌≡◌, ◌≢◌}
use Rattle.std.specs.List.{AllPairs}
use Rattle.rounds.specs.Scratch.{rounds_of}
use Rattle.pattern_building.specs.RoundPairs.{InRound, AddsGiven, Keeps, HasGiven}
use Rattle.pattern_building.proofs.GivenFacts.{SeenAt}
use Rattle.pattern_building.proofs.building.add_round.Given as goal

abbrev pub invariant-loop-stop : goal.invariant-loop-stop
invariant-loop-stop g l = record {
  source : l.tree.source ≡ l.fn.tree.source;
  once : AllPairs (λ p q. p ≢ q) l.tree.pairs;
  adds : AddsGiven (rounds_of l.view) (InRound l.rides l.stops) l.fn.tree.pairs l.tree.pairs;
  keeps : Keeps l.fn.tree.pairs l.tree.pairs;
  all : HasGiven (rounds_of l.view) (SeenAt l.rides l.stops l.stop-items l.stop-index) l.tree.pairs;
}
