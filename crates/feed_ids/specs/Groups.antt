-- Items by group.
use Rattle.std.specs.Prelude.{ℕ, ◌<◌, List, [], slice_index_or}
use Rattle.std.specs.List.{All}

-- the items of a group, none if there is no such group
abbrev pub group : {X : Type 0} → List (List X) → ℕ → List X
group groups n = slice_index_or groups n []

-- each number in each group is below the bound
abbrev pub AreBelow : ℕ → List (List ℕ) → Type 0
AreBelow bound groups = (n : ℕ) → All (λ item. item < bound) (group groups n)
