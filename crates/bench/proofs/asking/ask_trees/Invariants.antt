use Rattle.std.proofs.Common.{◌≡◌, length}
use Rattle.bench.proofs.asking.ask_trees.Given as goal

abbrev pub invariant-loop : goal.invariant-loop
invariant-loop l = l.questions.sources ≡ length l.trees
