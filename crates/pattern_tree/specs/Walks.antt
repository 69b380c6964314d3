-- What a walk shows.
use Rattle.std.specs.Prelude.{◌≡◌, ℕ, List, [], ◌∷◌, ◌++◌}
use Rattle.pattern_tree.specs.Forest.{Step, Pair}

-- x becomes y if it is shown the pairs one by one, in order, and Shows says what one of them makes of it
abbrev pub ShownAll : {X : Type 0} → (X → Pair → X → Type 0) → X → List Pair → X → Type 0
ShownAll Shows x [] y = y ≡ x
ShownAll {X} Shows x (p ∷ ps) y = (z : X) × Shows x p z × ShownAll Shows z ps y

-- the pair of a path and an end
abbrev pub ending : List Step → ℕ → Pair
ending path e = (path, e)

-- a pair whose path goes on from another path
abbrev pub after : List Step → Pair → Pair
after path p = (path ++ p.0, p.1)
