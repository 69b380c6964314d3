-- How many stops there must be for those of a tree.
use Rattle.std.specs.Prelude.{ℕ, ◌<◌, List, [], ◌∷◌}
use Rattle.pattern_tree.specs.Forest.{Step, Pair}
use Rattle.pattern_tree.specs.Content.{Content}

-- each stop of a path is below n
abbrev pub PathBelow : ℕ → List Step → Type 0
PathBelow n [] = Unit {0}
PathBelow n (s ∷ q) = (s.0 < n) × (s.1 < n) × PathBelow n q

-- each stop of the pairs is below n
abbrev pub PairsBelow : ℕ → List Pair → Type 0
PairsBelow n [] = Unit {0}
PairsBelow n (p ∷ ps) = PathBelow n p.0 × (p.1 < n) × PairsBelow n ps

-- the source, and each stop of the pairs, is below n
abbrev pub IsWithin : ℕ → Content → Type 0
IsWithin n t = (t.source < n) × PairsBelow n t.pairs
