-- What comes of trees that are given one by one.
use Rattle.std.specs.Prelude.{◌≡◌, List, [], ◌∷◌}
use Rattle.pattern_tree.specs.Content.{Content}

-- x becomes y by the trees, given one by one, in order; Takes says what one of them makes of it
abbrev pub GivenAll : {X : Type 0} → (X → Content → X → Type 0) → X → List Content → X → Type 0
GivenAll Takes x [] y = y ≡ x
GivenAll {X} Takes x (tree ∷ trees) y = (z : X) × Takes x tree z × GivenAll Takes z trees y
