use Rattle.std.proofs.Common.{◌≡◌, ◌≢◌}
use Rattle.std.specs.List.{AllPairs}
use Rattle.rounds.specs.Scratch.{rounds_of}
use Rattle.scanned_journeys.specs.Patterns.{HasPatterns}
use Rattle.scanned_journeys.proofs.patterns.patterns_to.Given as goal

abbrev pub invariant-loop-round : goal.invariant-loop-round
invariant-loop-round l = record {
  source : l.tree.source ≡ l.fn.source;
  once : AllPairs (λ p q. p ≢ q) l.tree.pairs;
  has : HasPatterns (rounds_of l.view) l.to l.round l.tree.pairs;
}
