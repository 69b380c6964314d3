-- What a forest has below a path. Only private clauses cite these words.
use Rattle.std.specs.Prelude.{◌≡◌, ℕ, ◌⊎◌, List, [], ◌∷◌}
use Rattle.pattern_tree.specs.Forest.{Step, Forest, none, node}

-- x is one of the items
abbrev pub IsIn : {X : Type 0} → X → List X → Type 0
IsIn x [] = ⊥
IsIn x (y ∷ ys) = (x ≡ y) ⊎ IsIn x ys

-- the path q leads to a node that has the end e
abbrev pub Has : List Step → ℕ → Forest → Type 0
Has [] e f = ⊥
Has (s ∷ q) e none = ⊥
Has (s ∷ []) e (node b a ends next rest) = ((s ≡ (b, a)) × IsIn e ends) ⊎ Has (s ∷ []) e rest
Has (s ∷ t ∷ q) e (node b a ends next rest) = ((s ≡ (b, a)) × Has (t ∷ q) e next) ⊎ Has (s ∷ t ∷ q) e rest
