use Rattle.std.proofs.Common.{◌≡◌, ◌≢◌}
use Rattle.std.specs.List.{AllPairs}
use Rattle.rounds.specs.Scratch.{rounds_of, before_of}
use Rattle.pattern_building.specs.RoundPairs.{UpToRound, AddsGiven, Keeps, HasGiven}
use Rattle.pattern_building.specs.Lowered.{Lowered}
use Rattle.pattern_building.proofs.building.add_event.Given as goal

abbrev pub invariant-loop-round : goal.invariant-loop-round
invariant-loop-round g l = record {
  source : l.tree.source ≡ l.fn.tree.source;
  once : AllPairs (λ p q. p ≢ q) l.tree.pairs;
  adds : AddsGiven (rounds_of l.view) (UpToRound l.round l.stops) l.fn.tree.pairs l.tree.pairs;
  keeps : Keeps l.fn.tree.pairs l.tree.pairs;
  all : HasGiven (rounds_of l.view) (Lowered (rounds_of l.view) (before_of l.view) (UpToRound l.round l.stops)) l.tree.pairs;
}
